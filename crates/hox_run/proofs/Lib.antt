pub mod Dried
pub mod Cutting
pub mod ToldRuns
pub mod Progressing
pub mod Named
pub mod Served
pub mod Fitted
pub mod Shared
