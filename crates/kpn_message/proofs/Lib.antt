pub mod Items
pub mod Locations
pub mod Told
