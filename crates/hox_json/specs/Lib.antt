pub mod Json
pub mod Told
pub mod Entries
