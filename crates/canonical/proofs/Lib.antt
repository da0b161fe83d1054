-- Vectors: the words of some tables.
pub mod Vectors
-- Laws of the rounds. Ordered, Keys: lists in an order, `in_order`. Onward, Ways, Routes: steps, ways and calls over the rows, as in the graph of
-- the search. Found, OneRound: what a round finds and leaves. Prefix, AfterRounds, Justifying, Settling: all rounds. Drills: the rounds of the vectors.
pub mod Ordered
pub mod Keys
pub mod Onward
pub mod Ways
pub mod Routes
pub mod Found
pub mod OneRound
pub mod Prefix
pub mod AfterRounds
pub mod Justifying
pub mod Settling
pub mod Drills
-- Words of rows. RowWords, Standing: those of a settled run say all that is said of a finished one. CallList: the list of call record numbers (R-10).
pub mod RowWords
pub mod Standing
pub mod CallList
-- Rounds of the code (R-7). TableRows: its tables as rows, and a round by record numbers. Beginning, Leaving, CodeRounds: from the goal's call on its
-- rounds are those of the definition. ReadBack, Words: so are the words of its tables.
pub mod TableRows
pub mod Beginning
pub mod Leaving
pub mod CodeRounds
pub mod ReadBack
pub mod Words
