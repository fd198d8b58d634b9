pub mod CaseSketch
pub mod Growth
