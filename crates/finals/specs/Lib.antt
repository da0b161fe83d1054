-- The final states of a call record, for the proofs.
pub mod Finals
