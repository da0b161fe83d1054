-- Laws of the spans, for this crate's proofs and those of `sheet`.
pub mod Spans
