pub mod Slots
pub mod Finishes
pub mod RunReports
pub mod Refusals
