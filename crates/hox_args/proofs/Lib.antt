pub mod HelpIsAnswered
pub mod HoxSubcommands
pub mod Settings
