-- Leaving: what the functions of a walk say to one another and to the rounds.
pub mod Leaving
