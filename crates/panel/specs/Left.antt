-- What a party's run needs of the words kept, whatever the tables hold, and the rows that it leaves (request R-14). Read by the proofs alone.
-- Assumes nothing.
use Rattle.std.specs.Prelude.{ℕ, ◌≤◌, ◌≡◌, true, false, List, [], length}
use Rattle.steps.specs.Acceptance.{bad_goal, bad_state, words_refusal}
use Rattle.records.specs.Records.{room}
use Rattle.sharing.specs.Parties.{Party, Account, Ledger, account_of, entered, ledger_words, ledger_width, ledger_of}
use Rattle.sharing.specs.Charged.{plain_call_width, plain_answer_width, run_held, Balanced, over_limits, Exceeds}

-- Under an accepted book these words are 44 that meet neither 23, 24 nor 90 with tables of these lengths, and each party that holds rows is within
-- its limits. So the rows of the goals kept fit the tables.
pub record Fitting (fluents actions : ℕ) (rules words calls answers : List ℕ) : Type 0 where
  pub book : words_refusal fluents actions rules [] ≡ 0
  pub long : length words ≡ ledger_width
  pub goals : (p : Party) → bad_goal fluents actions (account_of (ledger_of words) p).goal ≡ false
  pub starts : (p : Party) → bad_state fluents (account_of (ledger_of words) p).start ≡ false
  pub limits : over_limits (ledger_of words) calls answers ≡ false
  pub within : (p : Party) → (account_of (ledger_of words) p).holds ≡ true
      → ¬ Exceeds (run_held rules (account_of (ledger_of words) p)) (account_of (ledger_of words) p)

-- The ledger with other counts of records.
abbrev pub counted : Ledger → ℕ → ℕ → Ledger
counted l n m = record { first = l.first; second = l.second; calls = n; answers = m }

-- The tables, which keep their lengths, hold the rows of the goals that this ledger keeps, as it counts them.
pub record Left (rules : List ℕ) (l : Ledger) (calls answers calls' answers' : List ℕ) : Type 0 where
  pub calls_long : length calls' ≡ length calls
  pub answers_long : length answers' ≡ length answers
  pub calls_fit : l.calls ≤ room plain_call_width (length calls')
  pub answers_fit : l.answers ≤ room plain_answer_width (length answers')
  pub balanced : Balanced rules l calls' answers'

-- The same where one party has another account, with the words kept then.
pub record Leaves (rules words : List ℕ) (party : Party) (account : Account) (calls answers calls' answers' kept : List ℕ) : Type 0 where
  pub calls_count : ℕ
  pub answers_count : ℕ
  pub kept_words : kept ≡ ledger_words (entered (ledger_of words) party account calls_count answers_count)
  pub left : Left rules (entered (ledger_of words) party account calls_count answers_count) calls answers calls' answers'
