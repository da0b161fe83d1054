-- Rounds (request R-6), the order of the records and the justification kept (R-7). Assumes nothing.
use Prim.Native.Nat.{ℕ, zero, suc, ◌/◌, ◌<◌}
use Rattle.std.specs.Prelude.{◌≡◌, ◌≢◌, length}
use Rattle.std.proofs.Math.Bool.{cond}
use mathlib.Core.List.{List, [], ◌∷◌, ◌++◌, map, flat_map}
use Rattle.steps.specs.State.{State}
use Rattle.steps.specs.Step.{Step, query, insert, delete, call, deny, Body}
use Rattle.steps.specs.Run.{Goal}
use Rattle.steps.specs.Words.{body_of}
use Rattle.steps.specs.Widths.{rule_width}
use Rattle.steps.specs.Elementary.{Onward, on, stuck, elementary}
use Rattle.records.specs.Records.{bodies_of, goal_rule}
use Rattle.canonical.specs.Order.{same, in_order, new_to}
use Rattle.canonical.specs.Rows.{CallRow, AnswerRow, Rows, call_key, answer_key, call_at, numbers}

-- The call that a step comes to in a state.
unfoldable pub called : Step → State → List (ℕ × State)
called (call a) s = (a, s) ∷ []
called (query p) s = []
called (insert p) s = []
called (delete p) s = []
called (deny p) s = []

-- An elementary step that goes on has evidence 0.
abbrev pub goes : Onward → List (ℕ × State)
goes (on u) = (0, u) ∷ []
goes stuck = []

-- The evidence of a body's steps, and the state come to.
abbrev pub Route : Type 0
Route = List ℕ × State

module _ (t : Rows) where
  -- The answers of a call, from the record with number x on: numbers and final states.
  unfoldable pub answers_of : ℕ × State → ℕ → List AnswerRow → List (ℕ × State)
  answers_of c x [] = []
  answers_of c x (r ∷ rs) =
      cond (same (call_key (call_at t.calls r.call)) c) ((x, r.final) ∷ answers_of c (suc x) rs) (answers_of c (suc x) rs)

  -- Where a step leads, each time with its evidence, least first: a call takes each of its answers, another step goes on or not.
  unfoldable pub leads_to : Step → State → List (ℕ × State)
  unfolding called answers_of flat_map
  leads_to x s = goes (elementary x s) ++ flat_map (λ (c : ℕ × State). answers_of c 0 t.answers) (called x s)

  -- All ways through a body, the least evidence first, word by word from the first on.
  unfoldable pub ways : Body → State → List Route
  unfolding leads_to flat_map
  ways [] s = ([], s) ∷ []
  ways (x ∷ rest) s = flat_map (λ (o : ℕ × State). map (λ (w : Route). (o.0 ∷ w.0, w.1)) (ways rest o.1)) (leads_to x s)

  -- All calls that the walk of a body comes to.
  unfoldable pub comes_to : Body → State → List (ℕ × State)
  unfolding called leads_to flat_map
  comes_to [] s = []
  comes_to (x ∷ rest) s = called x s ++ flat_map (λ (o : ℕ × State). comes_to rest o.1) (leads_to x s)

module _ (rules goal : List ℕ) where
  -- The numbers of the rules of an action, in rising order, the goal's last.
  unfoldable pub rules_of : ℕ → List ℕ
  unfolding flat_map numbers
  rules_of a = flat_map (λ (k : ℕ). cond ((bodies_of rules goal).fits k a) (k ∷ []) []) (numbers 0 (length rules / rule_width) ++ (goal_rule ∷ []))

  -- Each call record and each of its rules in turn: the record's number and state, the rule's number and body.
  unfoldable pub each_body : {B : Type 0} → Rows → (ℕ → State → ℕ → Body → List B) → List B
  unfolding flat_map rules_of numbers
  each_body t f =
      flat_map (λ (i : ℕ). let c = call_at t.calls i in
      flat_map (λ (k : ℕ). f i c.state k (body_of ((bodies_of rules goal).words k c.action))) (rules_of c.action))
      (numbers 0 (length t.calls))

  -- What round r finds over the rows so far: "each round walks every body of every call with only the answers of earlier rounds".
  unfoldable pub found_calls : ℕ → Rows → List CallRow
  unfolding each_body comes_to
  found_calls r t = each_body t (λ i s k body. map (λ (d : ℕ × State). record { action = d.0; state = d.1; round = r }) (comes_to t body s))

  -- "Among justifications with evidence of smaller rounds the lowest rule number is kept, then the least evidence words from the first on": such
  -- a one stands first.
  unfoldable pub found_answers : ℕ → Rows → List AnswerRow
  unfolding each_body ways
  found_answers r t =
      each_body t (λ i s k body. map (λ (w : Route). record { call = i; final = w.1; rule = k; evidence = w.0; round = r }) (ways t body s))

  -- Round r "adds all new calls and answers at once".
  unfoldable pub add_round : ℕ → Rows → Rows
  unfolding found_calls found_answers in_order new_to
  add_round r t = record {
    calls = t.calls ++ in_order call_key (new_to call_key t.calls (found_calls r t));
    answers = t.answers ++ in_order answer_key (new_to answer_key t.answers (found_answers r t));
  }

  -- "The goal's call stands at round 0".
  unfoldable pub after_round : State → ℕ → Rows
  unfolding add_round
  after_round start zero = record { calls = record { action = Goal; state = start; round = 0 } ∷ []; answers = [] }
  after_round start (suc r) = add_round (suc r) (after_round start r)

  -- "The number of rounds that added something": the rounds up to n did, the next does not, so none does after it.
  pub record Settled (start : State) (n : ℕ) : Type 0 where
    pub added : (r : ℕ) → r < n → after_round start (suc r) ≢ after_round start r
    pub still : after_round start (suc n) ≡ after_round start n
