-- Laws of the names of a merged sheet.
pub mod MergedSpans
pub mod SpanParts
-- What is promised:
pub mod Laws
