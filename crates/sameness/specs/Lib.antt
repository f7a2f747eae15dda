pub mod Sameness
pub mod AnswerNumbers
