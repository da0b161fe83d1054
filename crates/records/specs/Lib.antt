-- Records: the records of the two tables, rooms, bodies by rule number, and when an answer is justified. Full and Finished: when the tables are
-- full, and what they hold after a finished run.
pub mod Records
pub mod Full
pub mod Finished
-- What only inner contracts cite. Storage: what the code that stores and finds records promises. Bodies: what is asked of rule and goal words.
pub mod Storage
pub mod Bodies
