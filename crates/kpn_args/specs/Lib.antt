pub mod Command
pub mod Choices
pub mod Made
