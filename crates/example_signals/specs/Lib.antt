pub mod Gain
pub mod MovingSum
