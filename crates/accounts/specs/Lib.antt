-- What the code that reads, judges and writes the words kept promises.
pub mod Accounts
