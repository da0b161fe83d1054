-- Alone: what a party's run alone gives over the words of the shared tables.
pub mod Alone
