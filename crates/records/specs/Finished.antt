-- What the tables hold after a finished run. Assumes nothing.
use Rattle.std.specs.Prelude.{ℕ, ◌*◌, ◌<◌, ◌≤◌, ◌≡◌, true, List, get_or}
use Rattle.steps.specs.State.{State}
use Rattle.steps.specs.Run.{Call, Answer}
use Rattle.steps.specs.Words.{run_of}
use Rattle.steps.specs.Counting.{Exactly, rows}
use Rattle.records.specs.Records.{Calls, Answers, bodies_of, justified, call_table, answer_table, call_width, answer_width}

-- The calls of the call records: their actions and states.
abbrev pub call_rows : Calls → List (ℕ × State)
call_rows calls = rows (λ i. (calls.action i, calls.state i)) calls.count

-- The answers of the answer records: the actions and states of their call records, and their final states.
abbrev pub answer_rows : Calls → Answers → List (ℕ × State × State)
answer_rows calls answers = rows (λ x. (calls.action (answers.call x), calls.state (answers.call x), answers.final x)) answers.count

-- The lent words hold n call records and m answer records of the run of these rules and this goal from this start.
pub record Finished (rules goal : List ℕ) (start : State) (calls answers : List ℕ) (n m : ℕ) : Type 0 where
  -- The call table holds exactly the run's calls, each once.
  pub calls_held : Exactly (Call (run_of rules goal start)) (call_rows (call_table calls n))
  -- The answer table holds exactly the run's answers, each once. (Each names a call record that exists,
  -- by `justified`, and a call stands in one record: so action and state say its number.)
  pub answers_held : Exactly (Answer (run_of rules goal start)) (answer_rows (call_table calls n) (answer_table answers m))
  -- Every answer record is justified.
  pub justified : (x : ℕ) → x < m → justified (call_table calls n) (answer_table answers m) x (bodies_of rules goal) ≡ true
  -- Words past the last record are 0.
  pub calls_past : (i : ℕ) → call_width * n ≤ i → get_or calls i 0 ≡ 0
  pub answers_past : (i : ℕ) → answer_width * m ≤ i → get_or answers i 0 ≡ 0
