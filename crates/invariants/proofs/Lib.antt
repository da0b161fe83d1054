-- What the loops of a walk and of the rounds keep.
pub mod Walking
pub mod Cold
pub mod Turn
pub mod Going
pub mod Frames
pub mod Rounds
pub mod Ordering
pub mod Filling
pub mod Tabulated
