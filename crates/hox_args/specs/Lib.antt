pub mod HoxCommand
pub mod HoxChoices
pub mod HoxTexts
