-- Laws of the walks over places.
pub mod Walking
