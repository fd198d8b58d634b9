pub mod Titles
pub mod Caption
pub mod Edges
pub mod Picture
pub mod Left
