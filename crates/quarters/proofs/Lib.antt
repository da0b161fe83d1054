-- Laws of quarters.
pub mod QuarterLaws
