-- What the records of a round put in order are, and what the parts of the way there leave.
pub mod Order
pub mod Placing
