-- Laws of a class run; Laws and Single are those that other crates may cite, Running is the loop's.
pub mod Turns
pub mod Running
pub mod Single
pub mod Ends
pub mod Tables
pub mod Laws
