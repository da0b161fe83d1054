-- Fits: the rows of goals that fit are left, and nothing is full. Entries: what is left with another account of one party, and `Entered`. Outcomes: the
-- cases of a run.
pub mod Fits
pub mod Entries
pub mod Outcomes
