-- What the contracts cite: parts of two sheets in a list, and the text out of them.
pub mod Parts
pub mod Texts
