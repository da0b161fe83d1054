-- What a reader must believe of the archive: the words and the states, and what the two operations give for every input.
pub mod Archive
pub mod Archived
