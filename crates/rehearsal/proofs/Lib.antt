-- Reading: what the reader hands to the evaluator.
pub mod Reading
