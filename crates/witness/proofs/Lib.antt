-- Laws of what the product answers in the terms of the model theory.
pub mod Witnesses
pub mod Ends
