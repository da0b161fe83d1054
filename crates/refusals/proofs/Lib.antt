-- Proofs of the refusals' numbers. Laws that other crates cite: Numbers.
pub mod Numbers
