mod Schedule
mod Replay
mod Led
mod WorkedNetworks
mod Counterexamples
pub mod WorkedRoom
mod ChangedBounds
mod ParksCase
mod WorkedSolutions
mod ChangedSolutions
mod ChangedFunctions
mod ChangedSolving
