pub mod Equal
pub mod Calls
pub mod Input
