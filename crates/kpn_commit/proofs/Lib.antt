pub mod Deeds
pub mod Keeping
pub mod Onward
pub mod Waits
pub mod Candidates
pub mod Idle
pub mod Enlarging
pub mod Working
