pub mod AnswersOfAll
pub mod ScaleLines
