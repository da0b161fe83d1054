-- Given: what is left where the rows of one or two goals are filled in and given.
pub mod Given
