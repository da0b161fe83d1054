-- Laws for this crate's proofs; Finishing serves crate `alone` too.
pub mod Finishing
pub mod CallNumbers
pub mod Given
pub mod Outcomes
pub mod Determined
