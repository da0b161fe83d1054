-- Laws of indexes: chains and queues as functions, the quarters that hold them, and one record more.
pub mod Chains
pub mod IndexLaws
pub mod Additions
