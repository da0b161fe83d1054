-- Ledgers: the words of a ledger say it again. Exchange: a run has as many calls and answers whatever its goal's number. Union: things of two kinds,
-- counted. AsKept: an opening is as kept, and two parties within their limits fit the tables. Refusals, AsAlone: a party's ends, counts and refusals are
-- those of a run alone. Runs: what a run leaves, the next takes. Determined: what a run's contract determines. PathSound: tables as kept meet no fault of
-- the path. Turns: runs in turn. TwoGoals, Balanced, Roots: closed tables of the kept goals are balanced, and
-- balanced ones closed; more goals (one more root: crate `joint`). Entering: what is left to show of a run. SharedRows: 42 of shared tables by the
-- check of plain records. Vectors: openings, words and paths, computed.
pub mod Ledgers
pub mod Exchange
pub mod Union
pub mod AsKept
pub mod Refusals
pub mod AsAlone
pub mod Runs
pub mod Determined
pub mod PathSound
pub mod Turns
pub mod TwoGoals
pub mod Balanced
pub mod Roots
pub mod Entering
pub mod SharedRows
pub mod Vectors
