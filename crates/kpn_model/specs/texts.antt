-- What programs read and write of networks and runs.
pub mod NameForm
pub mod Names
pub mod Reports
pub mod Version
