-- Laws of the definitions, for this crate's proofs and those of the crates above.
pub mod StateLaws
pub mod EachBelow
pub mod ElementaryLaws
pub mod Execution
pub mod Tables
pub mod Deductions
pub mod Exactness
pub mod Counting
pub mod Rows
pub mod Lists
pub mod WordLaws
pub mod AcceptanceLaws
