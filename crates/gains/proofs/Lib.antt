-- Laws: what the walk of one rule adds, and gains followed.
pub mod Widening
pub mod Gaining
