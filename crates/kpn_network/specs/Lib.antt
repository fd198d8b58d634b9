pub mod Ports
pub mod Parts
