-- Laws of records put in order.
pub mod PlacingLaws
pub mod GroupLaws
pub mod CallLaws
pub mod OrderLaws
