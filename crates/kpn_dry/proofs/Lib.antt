pub mod DryRuns
pub mod Walk
pub mod Told
