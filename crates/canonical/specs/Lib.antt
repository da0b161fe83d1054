-- Order: lists put in the order of a key. Rows: the records of the two tables as values, and their words. Rounds: one round, and the rows after each.
pub mod Order
pub mod Rows
pub mod Rounds
-- CallList: the call record numbers by action and state.
pub mod CallList
