-- Whether tables put aside hold just the rows that a run left. Read by the proofs alone. Assumes nothing.
use Rattle.std.specs.Prelude.{ℕ, ◌+◌, ◌*◌, ◌<◌, ◌≤◌, List, length, get_or}
use Rattle.steps.specs.State.{State}
use Rattle.records.specs.Records.{Calls, Answers}
use Rattle.records.proofs.Growth.{Tables, tables, CallsOnce, AnswersOnce}
use Rattle.desk.specs.Desk.{open_calls, packed_answers, CallsOpen, AnswersOpen}
use Rattle.index.specs.Index.{CallIndex, AnswersKeyed}
use Rattle.stowing.specs.Stowing.{stowed_answers, answer_words}
use Rattle.matching.specs.Flags.{RowForRow}

-- ---- the tables

-- The call records put aside: the states from word `room` of the call table on, the actions beside it. A record's number stands for its round.
abbrev pub stowed_calls : ℕ → List ℕ → List ℕ → ℕ → Calls
stowed_calls room words actions n =
    record { count = n; action = λ i. get_or actions i 0; state = λ i. get_or words (room + i) 0; round = λ i. i }

-- What a call record stands for: its action and state.
abbrev pub call_row : Calls → ℕ → ℕ × State
call_row calls i = (calls.action i, calls.state i)

-- What an answer record stands for: the action and state of its call record, and its final state.
abbrev pub answer_row : Calls → Answers → ℕ → ℕ × State × State
answer_row calls answers x = (calls.action (answers.call x), calls.state (answers.call x), answers.final x)

-- The first tables hold just the rows of the second, each once.
pub record SameRows (t e : Tables) : Type 0 where
  pub calls : RowForRow (call_row t.calls) t.calls.count (call_row e.calls) e.calls.count
  pub answers : RowForRow (answer_row t.calls t.answers) t.answers.count (answer_row e.calls e.answers) e.answers.count

-- ---- what is asked of them

-- A run left n call records in `rows`, no call twice, with their index in `calls`, where from `room` on the states of the call records put aside
-- stand; their actions are a table of their own.
pub record CallsReady (rows : List ℕ) (n : ℕ) (calls actions : List ℕ) (room stowed : ℕ) : Type 0 where
  pub stand : CallsOpen rows calls n
  pub index : CallIndex rows calls n
  pub once : CallsOnce (open_calls rows n)
  pub states : room + stowed ≤ length calls
  pub bytes : stowed ≤ length actions

-- A run left m answer records with their index, no answer twice, each of one of its n call records; the answer records put aside stand past them,
-- each of one of the call records put aside.
pub record AnswersReady (n stowed : ℕ) (answers : List ℕ) (m most kept : ℕ) : Type 0 where
  pub stand : AnswersOpen most answers m
  pub index : AnswersKeyed most answers m
  pub once : AnswersOnce (packed_answers answers m)
  pub of_calls : (y : ℕ) → y < m → (packed_answers answers m).call y < n
  pub fits : answer_words * most ≤ length answers
  pub few : kept ≤ most
  pub of_stowed : (x : ℕ) → x < kept → (stowed_answers most answers kept).call x < stowed

-- ---- the tables in the words

-- The tables put aside: call records with their states from `room` on, and answer records in a table with room for `most`.
abbrev pub stowed_tables : ℕ → List ℕ → List ℕ → ℕ → ℕ → List ℕ → ℕ → Tables
stowed_tables room calls actions stowed most answers kept = tables (stowed_calls room calls actions stowed) (stowed_answers most answers kept)

-- The tables that a run left.
abbrev pub run_tables : List ℕ → ℕ → List ℕ → ℕ → Tables
run_tables rows n answers m = tables (open_calls rows n) (packed_answers answers m)

-- What answer record x put aside stands for. A row does not ask how many records there are.
abbrev pub stowed_row : ℕ → List ℕ → List ℕ → ℕ → List ℕ → ℕ → ℕ × State × State
stowed_row room calls actions most answers x = answer_row (stowed_calls room calls actions 0) (stowed_answers most answers 0) x

-- What answer record y of the run stands for.
abbrev pub run_row : List ℕ → List ℕ → ℕ → ℕ × State × State
run_row rows answers y = answer_row (open_calls rows 0) (packed_answers answers 0) y
