-- The rounds of the code, from the goal's call on, are those of the definition: the rows after each, and the number that added something.
-- Assumes nothing.
use Prim.Native.Nat.{ℕ, ◌/◌, ◌≤◌}
use native.Mathlib.Omega.{arith}
use mathlib.Core.Path.{◌≡◌, ap, ◌∙◌}
use mathlib.Core.List.{List, [], ◌∷◌, map}
use lib.ListN.{length}
use Rattle.steps.specs.State.{State}
use Rattle.steps.specs.Run.{Goal}
use Rattle.steps.specs.Widths.{rule_width}
use Rattle.records.specs.Records.{Bodies, bodies_of, goal_rule}
use Rattle.records.proofs.Growth.{Tables}
use Rattle.tabling.proofs.Found.{Rounds, begun, went, RoundsOver}
use Rattle.tabling.proofs.Found as found
use Rattle.canonical.specs.Rows.{CallRow, numbers}
use Rattle.canonical.specs.Rounds.{after_round, Settled}
use Rattle.canonical.proofs.AfterRounds.{size, Running, running_start, running_next, running_settled}
use Rattle.canonical.proofs.TableRows.{call_row, answer_row, rows_of, rows_calls, rows_answers, left_grown}
use Rattle.canonical.proofs.Beginning.{Begins}
use Rattle.canonical.proofs.Leaving.{rounded_left}

module _ (rules goal : List ℕ) (few : length rules / rule_width ≤ goal_rule) (start : State) where
  abbrev bodies : Bodies
  bodies = bodies_of rules goal

  rows_size : (b : Tables) → size (rows_of bodies b) ≡ found.size b
  rows_size b = omega (arith, rows_calls bodies b, rows_answers bodies b)

  -- The first table has the rows of round 0.
  begins_rows : {b : Tables} → Begins start b → rows_of bodies b ≡ after_round rules goal start 0
  unfolding after_round rows_of call_row numbers
  begins_rows {b} B = λ i. record {
    calls = (ap (λ (k : ℕ). map (call_row bodies b) (numbers 0 k)) B.one ∙ ap (λ (c : CallRow). c ∷ []) first) i;
    answers = ap (λ (k : ℕ). map (answer_row bodies b) (numbers 0 k)) B.none i;
  }
    where
      first : call_row bodies b 0 ≡ record { action = Goal; state = start; round = 0 }
      first = λ i. record { action = B.action_is i; state = B.state_is i; round = B.round_is i }

  module _ {b₀ : Tables} (B : Begins start b₀) where
    -- After r rounds the tables have the rows of round r, and each round so far added something.
    pub rounds_rows : {r : ℕ} {u : Tables} → Rounds bodies b₀ r u → Running rules goal few start r (rows_of bodies u)
    rounds_rows begun = running_start rules goal few start (begins_rows B)
    rounds_rows (went {b = b} {u = u} K R more) =
        running_next rules goal few start (rounds_rows K) (left_grown rules goal (rounded_left rules goal R)) (omega (arith, rows_size b, rows_size u))

    -- Where they are over, their number is that of the rounds that added something.
    pub over_rows : {r : ℕ} {u : Tables} → RoundsOver bodies b₀ r u → Settled rules goal start r × (rows_of bodies u ≡ after_round rules goal start r)
    over_rows {u = u} O =
        running_settled rules goal few start (rounds_rows O.rounds) (left_grown rules goal (rounded_left rules goal O.still))
        (omega (arith, O.same, rows_size O.last, rows_size u))
