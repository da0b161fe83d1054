-- What the list of calls is, and what the parts of the way there leave.
pub mod Listing
