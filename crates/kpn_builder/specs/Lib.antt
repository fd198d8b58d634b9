pub mod Built
pub mod Written
