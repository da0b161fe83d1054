-- Class: what a class run gives and leaves. Shown: what is shown of it beyond its contract.
pub mod Class
pub mod Shown
