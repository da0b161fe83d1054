-- Laws of numbers kept in bytes.
pub mod NumberLaws
