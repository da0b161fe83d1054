-- Numbered: tables whose records' numbers stand for their rounds. KeptBodies: the bodies that a run of
-- the kept goals walks. Settled: tables of the kept goals, as they are given, are balanced.
pub mod Numbered
pub mod KeptBodies
pub mod KeptRoots
pub mod Settled
pub mod Sole
