pub mod Answers
pub mod FileAnswers
