-- Tables told off against each other: flags and rows, and when two tables hold the same rows.
pub mod Flags
pub mod Matching
