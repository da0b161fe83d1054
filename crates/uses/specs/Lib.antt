-- The uses of call records, for the proofs.
pub mod Uses
