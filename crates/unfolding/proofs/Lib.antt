-- Laws of the path, and what the code that lists it promises.
pub mod Below
pub mod Walk
pub mod Sizes
pub mod Lies
pub mod Places
pub mod Writing
pub mod Rests
pub mod Frames
pub mod Leads
pub mod Unrolling
pub mod Checking
pub mod StatesLaws
pub mod Soundness
