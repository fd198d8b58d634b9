pub mod StateAndHistory
pub mod Standings
pub mod Rosters
pub mod Candidates
pub mod Marks
pub mod Packed
