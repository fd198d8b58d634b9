pub mod Tables
pub mod Tallies
pub mod Counts
pub mod Counting
pub mod OverTexts
