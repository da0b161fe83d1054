-- The two tables while a run lasts.
pub mod Desk
