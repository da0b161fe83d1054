-- Laws of the parts, for this crate's proofs and those of `merge`.
pub mod Slices
pub mod Behind
pub mod News
pub mod PartLists
pub mod Turns
pub mod Founds
