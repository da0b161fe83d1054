-- How a sheet is read, each file a paragraph of document 01: a line, the whole sheet.
pub mod Line
pub mod Reader
-- What only inner contracts cite: what the code keeps from line to line.
pub mod Kept
