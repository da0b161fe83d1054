-- Records that 42 does not refuse. Assumes nothing.
use Prim.Native.Nat.{ℕ, ◌^◌, ◌<◌, ◌≤◌}
use native.Mathlib.Nat.{div-eq_of_lt}
use mathlib.Core.Path.{◌≡◌, refl}
use mathlib.Core.Bool.{Bool, true, false, not, ◌&&◌, ◌||◌}
use mathlib.Core.Logic.{◌⊎◌, inl, inr}
use lib.Dec.{eqb, ltb, leb}
use borrow.Author.Tests.{eq-eqb, lt-ltb, le-ltb, le-leb, leb-true, not-false}
use Rattle.steps.specs.Run.{Goal}
use Rattle.steps.specs.Acceptance.{bad_state}
use Rattle.steps.proofs.EachBelow.{both, each_at, each_all, true_not_false}
use Rattle.records.specs.Records.{Calls, Answers, Bodies, justified}
use Rattle.records.specs.Bodies.{is_goal}
use Rattle.checks.specs.Checks.{last_round, good_call, good_calls, all_justified, bad_records, good_row}

-- A call record of the goal or of an action below the count, in a state of the fluents counted, of a round that a run can come to.
pub record Proper (fluents actions : ℕ) (calls : Calls) (i : ℕ) : Type 0 where
  pub action : (calls.action i ≡ Goal) ⊎ (calls.action i < actions)
  pub state : calls.state i < 2 ^ fluents
  pub round : calls.round i ≤ last_round

within : (fluents s : ℕ) → s < 2 ^ fluents → bad_state fluents s ≡ false
unfolding bad_state
within fluents s l = rw (div-eq_of_lt l) refl

pub either : (actions a : ℕ) → ((a ≡ Goal) ⊎ (a < actions)) → (eqb a Goal || ltb a actions) ≡ true
either actions a (inl e) = rw (eq-eqb a Goal e) refl
either actions a (inr l) = by (eqb a Goal)
  where
    by : (b : Bool) → (b || ltb a actions) ≡ true
    by true = refl
    by false = lt-ltb a actions l

proper_good : (fluents actions : ℕ) (calls : Calls) (i : ℕ) → Proper fluents actions calls i → good_call fluents actions calls i ≡ true
unfolding good_call
proper_good fluents actions calls i p = rw (either actions (calls.action i) p.action, within fluents (calls.state i) p.state, le-leb (calls.round i) last_round p.round) refl

-- What an evaluation leaves, proper calls and justified answers, is never refused.
pub never_bad : (fluents actions : ℕ) (bodies : Bodies) (calls : Calls) (answers : Answers) → ((i : ℕ) → i < calls.count → Proper fluents actions calls i)
    → ((n : ℕ) → n < answers.count → justified calls answers n bodies ≡ true) → bad_records fluents actions bodies calls answers ≡ false
unfolding bad_records good_calls all_justified
never_bad fluents actions bodies calls answers proper just =
    rw (each_all (good_call fluents actions calls) calls.count (λ i l. proper_good fluents actions calls i (proper i l)), each_all (λ n. justified calls answers n bodies) answers.count just) refl

-- The rounds of call records that are not refused.
pub rounds_right : (fluents actions : ℕ) (bodies : Bodies) (calls : Calls) (answers : Answers) → bad_records fluents actions bodies calls answers ≡ false
    → (i : ℕ) → i < calls.count → calls.round i ≤ last_round
unfolding bad_records good_calls good_call
rounds_right fluents actions bodies calls answers e i l =
    let good = each_at (good_call fluents actions calls) calls.count (both (good_calls fluents actions calls) _ (not-false _ e)).0 i l in
    leb-true (calls.round i) last_round (both (not (bad_state fluents (calls.state i))) _ (both (eqb (calls.action i) Goal || ltb (calls.action i) actions) _ good).1).1

-- ---- the parts of a good record

module _ (first second : Bool) (fluents actions : ℕ) (calls : Calls) (i : ℕ) where
  -- an action that is neither that of a goal which stands nor below the count
  pub bad_action : is_goal first second (calls.action i) ≡ false → actions ≤ calls.action i → false ≡ good_row first second fluents actions calls i
  unfolding good_row
  bad_action g l = rw (g, le-ltb (calls.action i) actions l) refl

  -- any other: by the state
  pub by_state : {a : ℕ} {b : Bool} → a ≡ calls.action i → ((is_goal first second a ≡ true) ⊎ (a < actions)) → b ≡ bad_state fluents (calls.state i)
      → not b ≡ good_row first second fluents actions calls i
  unfolding good_row
  by_state {a} {b} e k z = rw (← e, one k, ← z) refl
    where
      said : (g l : Bool) → l ≡ true → (g || l) ≡ true
      said true l h = refl
      said false l h = h

      one : ((is_goal first second a ≡ true) ⊎ (a < actions)) → (is_goal first second a || ltb a actions) ≡ true
      one (inl g) = rw g refl
      one (inr l) = said (is_goal first second a) (ltb a actions) (lt-ltb a actions l)

module _ (fluents actions : ℕ) (calls : Calls) (i : ℕ) where
  -- a record of a run alone has a good action and state, and its round is right
  pub by_round : good_row true false fluents actions calls i ≡ true → leb (calls.round i) last_round ≡ good_call fluents actions calls i
  unfolding good_row good_call
  by_round h =
      let (a, s) = both (eqb (calls.action i) Goal || ltb (calls.action i) actions) _ h in
      rw (a, s) refl

  pub bad_row : good_row true false fluents actions calls i ≡ false → false ≡ good_call fluents actions calls i
  unfolding good_row good_call
  bad_row h = by (eqb (calls.action i) Goal || ltb (calls.action i) actions) (not (bad_state fluents (calls.state i))) (leb (calls.round i) last_round) h
    where
      by : (a s r : Bool) → (a && s) ≡ false → false ≡ (a && (s && r))
      by true true r e = absurd (true_not_false e)
      by true false r e = refl
      by false s r e = refl

-- ---- both tests, one after the other

pub both_tested : {g j p q : Bool} → g ≡ p → g ≡ true → j ≡ q → not j ≡ not (p && q)
both_tested e t f = rw (← e, t, ← f) refl
