-- Laws of the tables while a run lasts.
pub mod CallLaws
pub mod AnswerLaws
