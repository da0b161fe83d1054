-- ListTests, Certified: a test that computes of finite tables. RunTables: tables in words that pass it. Unique: a test that all
-- deductions of a goal have the same states. Paths: those of the rows. Drills: every row holds. Rounds: the check of their rounds.
pub mod ListTests
pub mod Certified
pub mod RunTables
pub mod Unique
pub mod Paths
pub mod Drills
pub mod Rounds
