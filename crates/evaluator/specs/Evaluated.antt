-- What `evaluate` gives and what each buffer holds then, for every input, by cases of the refusal. Assumes nothing.
use Rattle.std.specs.Prelude.{ℕ, ◌+◌, ◌<◌, ◌≤◌, ◌≡◌, List, ◌++◌, ◌≢◌, length, drop, replicate}
use Rattle.refusals.specs.Run.{run_refusals}
use Rattle.steps.specs.State.{State}
use Rattle.steps.specs.Run.{Run, End}
use Rattle.steps.specs.Words.{run_of}
use Rattle.steps.specs.Acceptance.{refusal_of}
use Rattle.steps.specs.Counting.{Exactly, Rising}
use Rattle.records.specs.Records.{room, call_width}
use Rattle.records.specs.Full.{Full}
use Rattle.records.specs.Finished.{Finished}
use Rattle.canonical.specs.Rows.{Rows, call_words, answer_words, filled}
use Rattle.canonical.specs.Rounds.{after_round, Settled}
use Rattle.canonical.specs.CallList.{call_list}

-- What is asked: the counts of fluents and actions, rule words, goal words and start.
abbrev pub Asked : Type 0
Asked = record { fluents : ℕ; actions : ℕ; rules : List ℕ; goal : List ℕ; start : ℕ }

-- The buffers lent: call table, answer table, list of ends and list of calls.
abbrev pub Lent : Type 0
Lent = record { calls : List ℕ; answers : List ℕ; ends : List ℕ; list : List ℕ }

-- What is given: the refusal number, 0 for none, the counts of ends, calls and answers, and the number of rounds that added something.
abbrev pub Told : Type 0
Told = record { refusal : ℕ; ends : ℕ; calls : ℕ; answers : ℕ; rounds : ℕ }

abbrev pub asked : ℕ → ℕ → List ℕ → List ℕ → ℕ → Asked
asked fluents actions rules goal start = record { fluents = fluents; actions = actions; rules = rules; goal = goal; start = start }

abbrev pub lent : List ℕ → List ℕ → List ℕ → List ℕ → Lent
lent calls answers ends list = record { calls = calls; answers = answers; ends = ends; list = list }

abbrev pub told : ℕ → ℕ → ℕ → ℕ → ℕ → Told
told refusal ends calls answers rounds = record { refusal = refusal; ends = ends; calls = calls; answers = answers; rounds = rounds }

-- The refusal for bad input, 20 to 24, or 0.
abbrev pub refused_with : Asked → ℕ
refused_with q = refusal_of q.fluents q.actions q.rules q.goal q.start

abbrev pub run_asked : Asked → Run
run_asked q = run_of q.rules q.goal q.start

-- 34: "list shorter than the call room" (R-10). "What is said of the tables, of when they are full and of their counts presumes it is not met."
abbrev pub CallListShort : Lent → Type 0
CallListShort b = length b.list < room call_width (length b.calls)

-- The records of both tables after n rounds.
abbrev pub rows_asked : Asked → ℕ → Rows
rows_asked q n = after_round q.rules q.goal q.start n

-- The buffers after a run of n rounds, with these words for the list of ends: "the contract gives the words of both tables as values", and "the
-- list past the calls is 0 after a finished run, 31 included".
abbrev pub buffers_after : Asked → ℕ → Lent → List ℕ → Lent
buffers_after q n b ends = let rows = rows_asked q n in
    lent (filled (length b.calls) (call_words rows.calls)) (filled (length b.answers) (answer_words rows.answers))
    ends (filled (length b.list) (call_list rows.calls))

-- An accepted run that fits the tables lent, with a list of calls that is not short: it is settled after the result's rounds, tables of the same
-- lengths hold it finished, its ends are these, and the result's counts are theirs.
pub record Tabled (q : Asked) (before after : Lent) (r : Told) : Type 0 where
  pub accepted : refused_with q ≡ 0
  pub listed : ¬ CallListShort before
  pub fits : ¬ Full (run_asked q) (length before.calls) (length before.answers)
  pub calls_long : length after.calls ≡ length before.calls
  pub answers_long : length after.answers ≡ length before.answers
  pub list_long : length after.list ≡ length before.list
  pub settled : Settled q.rules q.goal q.start r.rounds
  pub calls_many : r.calls ≡ length (rows_asked q r.rounds).calls
  pub answers_many : r.answers ≡ length (rows_asked q r.rounds).answers
  -- It "is at most calls plus answers less 1".
  pub few : r.rounds < r.calls + r.answers
  -- Demand 3 in the logic's own words: of the tables, whose words `buffers_after` gives.
  pub finished : Finished q.rules q.goal q.start after.calls after.answers r.calls r.answers
  pub ends : List State
  pub exactly : Exactly (End (run_asked q)) ends
  pub counted : length ends ≡ r.ends

pub data Evaluated (q : Asked) (before after : Lent) (r : Told) : Type 0 where
  -- 20 to 24: the first that is met, counts 0, all buffers unchanged.
  not_accepted : refused_with q ≢ 0 → r ≡ told (refused_with q) 0 0 0 0 → after ≡ before → Evaluated q before after r
  -- 34 "comes before 30": counts 0, all buffers unchanged.
  list_of_calls_short : refused_with q ≡ 0 → CallListShort before → r ≡ told run_refusals.call_list_short 0 0 0 0 → after ≡ before
      → Evaluated q before after r
  -- 30: no room; counts 0, both tables and the list of calls wholly 0, the list of ends unchanged.
  outgrown : refused_with q ≡ 0 → ¬ CallListShort before → Full (run_asked q) (length before.calls) (length before.answers)
      → r ≡ told run_refusals.tables_full 0 0 0 0
      → after ≡ lent (replicate (length before.calls) 0) (replicate (length before.answers) 0) before.ends
      (replicate (length before.list) 0)
      → Evaluated q before after r
  -- 31: the list of ends has fewer places than there are ends; finished tables, the list of calls and the four counts, the list of ends unchanged.
  short_list : r.refusal ≡ run_refusals.list_short → Tabled q before after r → length before.ends < r.ends
      → after ≡ buffers_after q r.rounds before before.ends → Evaluated q before after r
  -- No refusal: finished tables, the list of calls, the four counts, and the ends listed in rising order, followed by what their list held.
  ends_listed : r.refusal ≡ 0 → (t : Tabled q before after r) → r.ends ≤ length before.ends → Rising t.ends
      → after ≡ buffers_after q r.rounds before (t.ends ++ drop r.ends before.ends) → Evaluated q before after r
