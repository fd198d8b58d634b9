pub mod Execution
pub mod StandardRequests
pub mod Program
