mod Laws
mod RunningSums
mod RunningTable
mod MovingSum
mod Sieve
mod HammingLists
mod Hamming
mod Endless
