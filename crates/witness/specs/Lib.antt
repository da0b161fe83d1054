-- What the ends and the path that the product gives say in the model theory.
pub mod Witness
