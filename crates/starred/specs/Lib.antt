-- Drills: the starred drills, rows for request R-2 beside them, and what a row says. Rounds: which rounds the check of records takes.
pub mod Drills
pub mod Rounds
