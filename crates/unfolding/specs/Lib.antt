-- The path of an answer record, and the states of a deduction.
pub mod Path
pub mod States
