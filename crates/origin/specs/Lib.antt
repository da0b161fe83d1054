-- Where a merged fluent's name stands.
pub mod MergedName
