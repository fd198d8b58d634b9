pub mod Phases
pub mod Shown
pub mod Rule
pub mod Boards
