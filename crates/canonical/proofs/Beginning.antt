-- The tables that a run begins with, and how many rounds can follow. Assumes nothing.
use Prim.Native.Nat.{ℕ, ◌<◌}
use native.Mathlib.Omega.{arith}
use mathlib.Core.Path.{◌≡◌}
use Rattle.steps.specs.State.{State}
use Rattle.steps.specs.Run.{Goal}
use Rattle.records.specs.Records.{Bodies}
use Rattle.records.proofs.Growth.{Tables}
use Rattle.tabling.proofs.Found.{Rounds, begun, went, RoundsOver, size}

-- "The goal's call stands at round 0", alone.
pub record Begins (start : State) (t : Tables) : Type 0 where
  pub one : t.calls.count ≡ 1
  pub none : t.answers.count ≡ 0
  pub action_is : t.calls.action 0 ≡ Goal
  pub state_is : t.calls.state 0 ≡ start
  pub round_is : t.calls.round 0 ≡ 0

module _ {bodies : Bodies} {b₀ : Tables} {start : State} (B : Begins start b₀) where
  -- "At most calls plus answers less 1."
  pub rounds_few : {r : ℕ} {u : Tables} → Rounds bodies b₀ r u → r < size u
  rounds_few begun = omega (arith, B.one)
  rounds_few (went K R more) = omega (arith, rounds_few K)

  pub over_few : {r : ℕ} {u : Tables} → RoundsOver bodies b₀ r u → r < size u
  over_few O = omega (arith, rounds_few O.rounds, O.same)
