pub mod AnswersBound
