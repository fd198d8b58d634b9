pub mod Fault
pub mod Form
pub mod Description
