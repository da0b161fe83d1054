-- What a sheet says, each file a paragraph of document 01: what a sheet is read into; a field.
pub mod Verdict
pub mod Book
pub mod Field
-- What only inner contracts cite: how the code holds names, bodies and verdicts.
pub mod Held
