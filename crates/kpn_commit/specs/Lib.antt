pub mod Reactions
pub mod Candidates
pub mod Waiting
pub mod Resolving
pub mod Works
pub mod Coherent
pub mod Answering
pub mod Outside
