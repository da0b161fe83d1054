-- Tables put aside and given back.
pub mod Stowing
