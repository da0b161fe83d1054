-- Laws of the definitions, for this crate's proofs and those of the crates above.
pub mod Verdicts
pub mod FieldVerdicts
pub mod NamePlaces
pub mod Bodies
