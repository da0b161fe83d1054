-- Laws of the report: fractions are in lowest terms, and the figures are those of the request.
pub mod Euclid
pub mod LowestTerms
pub mod Sums
pub mod Ones
pub mod Written
pub mod Results
pub mod Outcomes
pub mod Shares
pub mod Cases
