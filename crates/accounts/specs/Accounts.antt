-- What the code that reads, judges and writes the words kept beside the tables of two parties promises (request R-14). Read by the proofs alone.
-- Assumes nothing.
use Rattle.std.specs.Prelude.{ℕ, ◌<◌, ◌≤◌, ◌≡◌, true, false, List, get_or, length, take}
use Rattle.steps.specs.State.{State}
use Rattle.steps.specs.Acceptance.{bad_goal, bad_state}
use Rattle.sharing.specs.Parties.{Party, first, second, Account, account_of, account_at, ledger_width, ledger_of}
use Rattle.sharing.specs.Charged.{over_limits, over_rooms}

-- ---- one account

-- How many words an account has.
abbrev pub account_width : ℕ
account_width = 21

-- The count of a goal's steps where there are at most 16, and else a number over 16.
pub record StepCount (goal : List ℕ) (r : ℕ) : Type 0 where
  pub few : r ≤ 16 → length goal ≡ r
  pub many : 16 < r → 16 < length goal

-- Word i of the goal of the account that begins at a place, where the goal has it.
pub record GoalWord (words : List ℕ) (at i r : ℕ) : Type 0 where
  pub word : i < length (account_at words at).goal → r ≡ get_or (account_at words at).goal i 0

-- The goal stands in the first r places; with r over 16 it is a bad one, whatever the counts of fluents and actions.
pub record GoalRead (goal places places' : List ℕ) (r : ℕ) : Type 0 where
  pub long : length places' ≡ length places
  pub read : r ≤ 16 → take r places' ≡ goal
  pub none : 16 < r → (fluents actions : ℕ) → bad_goal fluents actions goal ≡ true

-- ---- both

-- Not 91, but for what the tables hold: what is kept is 44 words and meets none of 23, 24, 40 and 90.
pub record Sound (fluents actions : ℕ) (words calls answers : List ℕ) : Type 0 where
  pub long : length words ≡ ledger_width
  pub goals : (p : Party) → bad_goal fluents actions (account_of (ledger_of words) p).goal ≡ false
  pub starts : (p : Party) → bad_state fluents (account_of (ledger_of words) p).start ≡ false
  pub counts : over_rooms (ledger_of words) calls answers ≡ false
  pub limits : over_limits (ledger_of words) calls answers ≡ false

-- What is kept is 44 words, and its goals have at most 16 steps.
pub record ShortGoals (words : List ℕ) : Type 0 where
  pub long : length words ≡ ledger_width
  pub short : (p : Party) → length (account_of (ledger_of words) p).goal ≤ 16

-- Where a party's account begins.
unfoldable pub place_of : Party → ℕ
place_of first = 0
place_of second = account_width

-- An account that holds the rows of this goal from this start,
abbrev pub holding : ℕ → ℕ → List ℕ → State → Account
holding calls answers goal start = record { call_limit = calls; answer_limit = answers; holds = true; goal = goal; start = start }

-- with the limits of this one. (So `takes_up a q` is `took_up a q.goal q.start`.)
abbrev pub took_up : Account → List ℕ → State → Account
took_up a goal start = holding a.call_limit a.answer_limit goal start
