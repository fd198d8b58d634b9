pub mod Titles
pub mod Drawing
