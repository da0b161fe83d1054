-- Laws of the answer of a path over shared tables.
pub mod TracedLaws
