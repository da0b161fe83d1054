-- Evaluated: what `evaluate` gives and leaves.
pub mod Evaluated
