-- The fixed text of what a sheet says, and what the writer gives.
pub mod Text
pub mod Writer
-- What only inner contracts cite.
pub mod Inner
