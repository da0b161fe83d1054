-- What the contracts below `mark` speak of.
pub mod Masks
