-- Laws of the text, for this crate's proofs and those of the crates above; `Laws` has those that R-1 asks for.
-- A text reads to its book:
pub mod Joining
pub mod StepsBack
pub mod Starts
pub mod Solid
pub mod NamesApart
pub mod TextLines
pub mod FieldsSolid
pub mod Proper
pub mod LinesBack
pub mod Forward
-- A sheet's book is proper, and its text is the sheet's own record lines:
pub mod Says
pub mod ProperSheets
pub mod Undoing
pub mod StartWeight
pub mod Backward
pub mod Shorter
-- What the code puts is the text:
pub mod LinePieces
pub mod Writing
pub mod Filling
pub mod Outcomes
-- What is promised:
pub mod Laws
pub mod Drills
