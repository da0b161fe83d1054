-- Laws of the definitions. Shuffles, Orders and SortedLaws are for the crates above; the others are for this crate's proofs.
pub mod Shuffles
pub mod Orders
pub mod Ascents
pub mod Keys
pub mod Exchanges
pub mod HeapLaws
pub mod Sinking
pub mod Selection
pub mod SortedLaws
