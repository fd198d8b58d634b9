pub mod Location
pub mod Lines
pub mod EveryFault
