pub mod FlowDry
pub mod Judging
