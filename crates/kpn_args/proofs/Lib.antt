pub mod Added
pub mod CommandEntries
pub mod Settings
pub mod Subcommands
