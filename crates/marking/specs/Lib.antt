-- Marking is what a reader must believe of the operation; Inner has what the contracts of its private functions speak of.
pub mod Marking
pub mod Inner
