-- Laws of tables put aside and given back: of answer records, and of call records.
pub mod AnswerStows
pub mod CallStows
