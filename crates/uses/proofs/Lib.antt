-- Laws of the uses of call records.
pub mod UsesLaws
pub mod HeatLaws
pub mod NoteLaws
