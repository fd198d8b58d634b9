pub mod Names
pub mod Statuses
pub mod Lines
pub mod Loading
pub mod Written
