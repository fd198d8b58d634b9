pub mod Names
pub mod Parts
pub mod Verdicts
pub mod BothTitles
pub mod Spaced
pub mod FormulaTitles
pub mod TitleTexts
