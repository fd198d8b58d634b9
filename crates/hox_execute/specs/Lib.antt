pub mod Reports
pub mod Commands
pub mod Program
pub mod Streaming
pub mod OnFiles
