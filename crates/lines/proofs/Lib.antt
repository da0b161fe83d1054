-- Laws of the definitions, for this crate's proofs and those of the crates above.
pub mod Readings
pub mod LineHeads
pub mod LineVerdicts
pub mod Rules
