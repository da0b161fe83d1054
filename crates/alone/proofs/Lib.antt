-- Counted: closed tables of a goal, and what was found of its call, say how its run comes out. AsShared: what a run alone tells is what `Shared` asks
-- for.
pub mod Counted
pub mod AsShared
