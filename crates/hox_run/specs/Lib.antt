pub mod Cuts
pub mod Judging
pub mod Judged
pub mod Notes
pub mod Telling
pub mod Ended
pub mod Serving
