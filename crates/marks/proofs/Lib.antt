-- Laws of marks.
pub mod MarksLaws
