pub mod Pictures
pub mod Served
pub mod Titled
