pub mod Numbers
pub mod Rows
pub mod Samples
pub mod Records
pub mod WordLines
pub mod Tables
pub mod Heads
