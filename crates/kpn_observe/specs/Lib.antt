pub mod WatchedFaults
pub mod WatchedReports
