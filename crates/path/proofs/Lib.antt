-- Laws of the path's answer; FinishedLaws: that tables of a finished run meet no fault.
pub mod Told
pub mod OutcomeLaws
pub mod FinishedLaws
pub mod Copying
pub mod Packed
