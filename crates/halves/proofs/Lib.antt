-- Halves: the ends of a goal cut in two. Refused: what can refuse a half.
pub mod Halves
pub mod Refused
