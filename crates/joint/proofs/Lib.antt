-- Roots: what holds of tables throughout an evaluation holds with one more root that stands in them, if it is put in; and where there is no room
-- for it there are more calls than places. (More bodies instead of roots: crate `sharing`.) Fresh: tables that were cleared.
pub mod Roots
pub mod Fresh
