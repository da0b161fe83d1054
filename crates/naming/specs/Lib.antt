-- Parts of a sheet, and where the name of a `fluent` line stands.
pub mod Spans
