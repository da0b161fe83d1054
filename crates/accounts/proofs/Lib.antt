-- GoalWords: a goal judged word by word. AccountWords: an account read from its words, and written. KeptWords: both accounts and the counts, and
-- what is sound.
pub mod GoalWords
pub mod AccountWords
pub mod KeptWords
