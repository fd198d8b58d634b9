pub mod Codes
pub mod Truth
pub mod Parsed
pub mod Collected
pub mod Opened
pub mod Compiled
pub mod Lexed
