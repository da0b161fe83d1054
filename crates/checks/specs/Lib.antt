-- What the checks of tables say: Checks has 40 and 42; Readable is what inner functions ask of the words that they read.
pub mod Checks
pub mod Readable
