pub mod Laws
pub mod Numbers
pub mod LawfulSignals
