-- What a reader must believe of the report: fractions in lowest terms, the figures, and what the operation gives for every input.
pub mod Fraction
pub mod Figures
pub mod Report
pub mod Passes
