pub mod Calls
pub mod Handles
