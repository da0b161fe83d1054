-- The quarters of a word: four numbers of 16 bits.
pub mod Quarters
