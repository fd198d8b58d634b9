pub mod Apart
pub mod Misused
pub mod Zipped
pub mod Named
pub mod Firsts
pub mod Parted
