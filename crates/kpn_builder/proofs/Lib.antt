pub mod Tables
pub mod ReadBack
