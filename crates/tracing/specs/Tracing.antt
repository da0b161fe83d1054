-- What the code that lists a path of shared tables asks of the goals that are kept. Read by the proofs alone. Assumes nothing.
use Rattle.std.specs.Prelude.{ℕ, ◌≡◌, List, length}
use Rattle.steps.specs.Acceptance.{words_refusal}
use Rattle.sharing.specs.Parties.{ledger_width, ledger_of}
use Rattle.accounts.specs.Accounts.{GoalRead}

-- What is kept is 44 words, and both its goals have been read into 16 places, whatever these held, or are bad ones.
pub record GoalsRead (words goal : List ℕ) (n : ℕ) (second : List ℕ) (m : ℕ) : Type 0 where
  pub long : length words ≡ ledger_width
  pub first_long : length goal ≡ 16
  pub first_held : List ℕ
  pub first_read : GoalRead (ledger_of words).first.goal first_held goal n
  pub second_long : length second ≡ 16
  pub second_held : List ℕ
  pub second_read : GoalRead (ledger_of words).second.goal second_held second m

-- What is kept is 44 words, these are its goals, and they meet none of 20 to 23 with the book.
pub record GoalsKept (fluents actions : ℕ) (rules words goal second : List ℕ) : Type 0 where
  pub long : length words ≡ ledger_width
  pub first_is : goal ≡ (ledger_of words).first.goal
  pub second_is : second ≡ (ledger_of words).second.goal
  pub first_good : words_refusal fluents actions rules goal ≡ 0
  pub second_good : words_refusal fluents actions rules second ≡ 0
