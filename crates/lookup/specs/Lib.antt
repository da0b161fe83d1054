-- Lookup: what a lookup answers, the paper's procedure. Told: what C sees of a search. Walked: what a walk of the table answers, and the lists
-- with which both agree.
pub mod Lookup
pub mod Told
pub mod Walked
