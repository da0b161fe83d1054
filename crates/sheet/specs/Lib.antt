-- What the reader gives, and where a fluent's name stands.
pub mod Result
pub mod FluentName
-- What only inner contracts cite: how the code holds what a sheet says.
pub mod Inner
