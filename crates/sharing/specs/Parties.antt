-- Two parties with one book, and what is kept beside their tables: a ledger, also as words (request R-14). Assumes nothing.
use Rattle.std.specs.Prelude.{ℕ, ◌+◌, ◌-◌, Bool, true, false, cond, not, List, [], ◌∷◌, ◌++◌, get_or, length, take, drop, replicate, eqb}
use Rattle.steps.specs.State.{State}
use Rattle.steps.specs.Run.{Goal}

-- "Two parties with the same book."
pub data Party : Type 0 where
  first second : Party

-- "Each with a goal (actions 64 and 65 ...)": the number under which a party's goal stands in the tables.
unfoldable pub goal_number : Party → ℕ
goal_number first = Goal
goal_number second = 65

-- The party by whether it is the second.
unfoldable pub party_of : Bool → Party
party_of false = first
party_of true = second

-- One party's account: "a limit of calls and of answers", whether it holds rows, and the goal words and the start that it holds them for.
abbrev pub Account : Type 0
Account = record { call_limit : ℕ; answer_limit : ℕ; holds : Bool; goal : List ℕ; start : State }

-- A party that holds no rows has no goal and no start: no words and 0 stand for them.
abbrev pub vacant : ℕ → ℕ → Account
vacant calls answers = record { call_limit = calls; answer_limit = answers; holds = false; goal = []; start = 0 }

-- "Kept beside the tables are the limits of both parties, the goals and starts of those that hold rows, and the counts of records in the tables."
abbrev pub Ledger : Type 0
Ledger = record { first : Account; second : Account; calls : ℕ; answers : ℕ }

-- An opening keeps the limits, of the first party and of the second: nobody holds rows, and there are no records.
abbrev pub opened : ℕ → ℕ → ℕ → ℕ → Ledger
opened c₁ a₁ c₂ a₂ = record { first = vacant c₁ a₁; second = vacant c₂ a₂; calls = 0; answers = 0 }

-- The account of a party.
unfoldable pub account_of : Ledger → Party → Account
account_of l first = l.first
account_of l second = l.second

-- The ledger with another account of one party and other counts: the other party's account stays.
unfoldable pub entered : Ledger → Party → Account → ℕ → ℕ → Ledger
entered l first a n m = record { first = a; second = l.second; calls = n; answers = m }
entered l second a n m = record { first = l.first; second = a; calls = n; answers = m }

-- ---- as words

-- An account's 21 words: the limits of calls and of answers, 1 if it holds rows and else 0, the start, the count of goal steps, and 16 step words,
-- "unused goal words are always 0".
unfoldable pub account_words : Account → List ℕ
account_words a =
    a.call_limit ∷ a.answer_limit ∷ cond a.holds 1 0 ∷ a.start ∷ length a.goal ∷ (a.goal ++ replicate (16 - length a.goal) 0)

-- A ledger's 44 words: both accounts, the count of call records and that of answer records.
unfoldable pub ledger_words : Ledger → List ℕ
ledger_words l = account_words l.first ++ (account_words l.second ++ (l.calls ∷ l.answers ∷ []))

-- The account whose words begin at place i. Any word but 0 says that it holds rows; the start and the goal of one that holds none are not looked at.
-- Its goal is as many words as are counted: more than 16 are no goal (23).
unfoldable pub account_at : List ℕ → ℕ → Account
account_at words i = let holds = not (eqb (get_or words (i + 2) 0) 0) in record {
  call_limit = get_or words i 0;
  answer_limit = get_or words (i + 1) 0;
  holds = holds;
  goal = cond holds (take (get_or words (i + 4) 0) (drop (i + 5) words)) [];
  start = cond holds (get_or words (i + 3) 0) 0;
}

-- How many words a ledger has.
abbrev pub ledger_width : ℕ
ledger_width = 44

-- The ledger in lent words. Any other number of words keeps nothing: no limits, no goals and no records.
unfoldable pub ledger_of : List ℕ → Ledger
ledger_of words = cond (eqb (length words) ledger_width)
    (record { first = account_at words 0; second = account_at words 21; calls = get_or words 42 0; answers = get_or words 43 0 }) (opened 0 0 0 0)
