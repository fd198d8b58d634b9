pub mod Bodies
pub mod Both
pub mod Filters
pub mod KindTable
