-- The model theory of Transaction Logic (source documents 000, section 2, and 001, section 3) for ground serial rules, and the path of a deduction.
pub mod Path
pub mod Entailment
pub mod Execution
