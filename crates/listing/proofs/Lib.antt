-- Laws of the list of calls.
pub mod ListingLaws
