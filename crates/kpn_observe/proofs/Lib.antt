pub mod WatchedRuns
