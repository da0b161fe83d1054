-- The numbers of refusals, each named once, as the tables of documents 01 and 02 have them; 0 is none. One file for each place that they are of.
pub mod Sheet
pub mod Run
pub mod Class
pub mod Path
pub mod Lookup
pub mod Text
pub mod Marking
pub mod Archive
pub mod Sharing
-- The enum `Refusal` of the code, and its numbers.
pub mod Number
