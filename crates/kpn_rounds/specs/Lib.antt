pub mod Steps
pub mod Rounds
pub mod Numbers
pub mod Turns
