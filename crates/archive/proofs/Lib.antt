-- Laws of the archive: what is stored is what the request says, and the two operations undo each other.
pub mod AnyBelow
pub mod Bits
pub mod Tabulated
pub mod Counted
pub mod Stored
pub mod Outcomes
pub mod RoundTrip
pub mod Cases
