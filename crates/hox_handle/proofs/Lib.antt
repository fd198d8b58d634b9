pub mod Crossing
mod Named
mod OneMore
mod Opened
mod RunReports
