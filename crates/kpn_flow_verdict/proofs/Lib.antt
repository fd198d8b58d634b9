pub mod FlowRuns
pub mod Outputs
