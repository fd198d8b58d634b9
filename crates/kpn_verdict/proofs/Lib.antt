pub mod CycleSteps
