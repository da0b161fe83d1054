-- What the indexes of the two tables hold.
pub mod Index
