-- What inner functions ask of the tables that they read: records that stand there, and call records that answers name. Assumes nothing.
use Rattle.std.specs.Prelude.{ℕ, ◌+◌, ◌*◌, ◌<◌, ◌≤◌, ◌≡◌, Bool, cond, ◌&&◌, List, get_or, length, eqb}
use Rattle.steps.specs.State.{State}
use Rattle.steps.specs.Words.{step_of}
use Rattle.steps.specs.Elementary.{Onward, on, stuck}
use Rattle.records.specs.Records.{follow}
use Rattle.records.specs.Storage.{calls_in, answers_in, call_width_of, answer_width_of}

-- The answer records below n, plain or with rounds, stand in the table, and so do the call records that they name.
pub record Readable (plain : Bool) (calls answers : List ℕ) (n : ℕ) : Type 0 where
  pub most : n ≤ 65536
  pub long : answer_width_of plain * n ≤ length answers
  pub called : (x : ℕ) → x < n → call_width_of plain * get_or answers (answer_width_of plain * x) 0 + call_width_of plain ≤ length calls

-- Where a call of this action at this state leads if it takes answer e: to its final state, if the answer is of this call.
abbrev pub taken : Bool → List ℕ → List ℕ → ℕ → State → ℕ → Onward
taken plain calls answers a s e =
    let rows = calls_in (call_width_of plain) calls 0 in
    let ends = answers_in (answer_width_of plain) answers 0 in
    cond (eqb (rows.action (ends.call e)) a && eqb (rows.state (ends.call e)) s) (on (ends.final e)) stuck

-- Where a step of record n leads: the same however many records are counted.
abbrev pub Leads : Bool → List ℕ → List ℕ → ℕ → ℕ → State → ℕ → Onward → Type 0
Leads plain calls answers n w s e o =
    (c m : ℕ) → o ≡ follow (calls_in (call_width_of plain) calls c) (answers_in (answer_width_of plain) answers m) n (step_of w) s e
