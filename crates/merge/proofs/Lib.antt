-- Laws of the merge, for this crate's proofs and those of the crates above.
pub mod Together
pub mod Joins
pub mod ProperBoth
pub mod MoreRules
pub mod StartsTogether
pub mod WithItself
-- The parts that the code keeps:
pub mod SheetParts
pub mod MergedParts
pub mod Laying
pub mod Joinings
pub mod Outcomes
-- What is promised:
pub mod Laws
pub mod Operations
