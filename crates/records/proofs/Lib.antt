-- Laws of records: written and read, words that are all 0, tables that grow, justifications, and bodies by rule number.
pub mod StorageLaws
pub mod Zeros
pub mod Growth
pub mod Justification
pub mod Numbers
pub mod BodyLaws
