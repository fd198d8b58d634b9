pub mod Tally
pub mod Text
pub mod Reported
pub mod Counted
pub mod Tallied
