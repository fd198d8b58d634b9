pub mod Arriving
pub mod RunningSums
pub mod RunningTable
pub mod MovingSum
pub mod Sieve
pub mod Hamming
pub mod Endless
