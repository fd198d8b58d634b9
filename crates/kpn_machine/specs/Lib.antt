pub mod Opening
pub mod MachineView
pub mod Commits
pub mod Asking
pub mod OpenFaults
pub mod Finishing
