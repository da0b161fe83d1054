-- Laws of the definitions, for this crate's proofs and those of the crates above.
pub mod Clean
pub mod Pieces
pub mod Bare
pub mod Ends
pub mod Fields
pub mod Names
