-- Marks of walks, for the proofs.
pub mod Marks
