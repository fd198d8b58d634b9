pub mod Loaded
pub mod Writing
