-- Laws for this crate's proofs.
pub mod FinalsLaws
pub mod Listing
pub mod LineLaws
