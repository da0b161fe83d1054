-- What is asked of the goals of a path over shared tables.
pub mod Tracing
