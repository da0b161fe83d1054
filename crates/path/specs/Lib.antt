-- Answered is what the path answers; Inner has what the contracts of its private functions speak of.
pub mod Answered
pub mod Inner
