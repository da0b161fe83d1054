-- Rehearsed: what one rehearsal of a sheet gives.
pub mod Rehearsed
