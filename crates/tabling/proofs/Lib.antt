-- The theory of the search: it knows no bucket and no note.
pub mod Sweep
pub mod Graph
pub mod Measure
pub mod Moves
pub mod Evidence
pub mod Adding
pub mod Closed
pub mod Found
pub mod Resorted
pub mod Rewritten
pub mod RunTables
