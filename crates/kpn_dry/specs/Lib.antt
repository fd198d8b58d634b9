pub mod Dry
pub mod Told
pub mod ActiveLine
