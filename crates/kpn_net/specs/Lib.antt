pub mod Faults
pub mod Sketched
