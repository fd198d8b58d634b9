pub mod Pieces
pub mod Digits
pub mod Widths
pub mod Starts
pub mod Resumes
