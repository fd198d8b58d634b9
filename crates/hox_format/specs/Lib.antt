pub mod Forms
pub mod Saying
pub mod Records
pub mod Heads
pub mod Resuming
pub mod Tables
