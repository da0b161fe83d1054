-- What two sheets say together, and what the merge gives.
pub mod Joined
pub mod Merge
-- What only inner contracts cite.
pub mod Inner
