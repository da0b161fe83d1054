-- Comparing: what the order of two keys says. Looking: one turn of a lookup at a time. Walking: a lookup finds what a walk of the table does.
-- Listed: the list of call record numbers of rows is one for which it does. Drills: lookups by value.
pub mod Comparing
pub mod Looking
pub mod Walking
pub mod Listed
pub mod Drills
