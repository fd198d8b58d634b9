pub mod Files
pub mod Statuses
pub mod Formats
pub mod Pairs
pub mod Uses
pub mod Requests
pub mod Served
