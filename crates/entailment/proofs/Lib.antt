-- Figure 4 is sound and complete for the model theory: `Theorems` says so, the files before it prove it, those after it show what the definitions say.
pub mod PathLaws
pub mod ExecutionLaws
pub mod Satisfaction
pub mod Soundness
pub mod Completeness
pub mod Theorems
pub mod Fixed
pub mod Classical
pub mod Examples
