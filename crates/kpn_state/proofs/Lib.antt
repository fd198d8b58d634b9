pub mod Contradictions
pub mod Placed
pub mod Withdrawn
pub mod Rostered
pub mod Ordered
pub mod Grown
