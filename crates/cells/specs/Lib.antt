-- Numbers kept in bytes.
pub mod Numbers
