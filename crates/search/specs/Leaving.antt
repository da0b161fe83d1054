-- How a turn of the walk comes out, by the search's invariants. Read by the proofs of `search` and `filling` alone. Assumes nothing.
use Rattle.std.specs.Prelude.{ℕ, ◌+◌, ◌<◌, ◌≡◌, List, length}
use Rattle.steps.specs.State.{State}
use Rattle.records.specs.Records.{Bodies, room, call_width}
use Rattle.records.proofs.Growth.{Tables}
use Rattle.tabling.proofs.Measure.{left}
use Rattle.uses.specs.Uses.{Uses, UsesGrew, uses_in}
use Rattle.invariants.proofs.Turn.{Begin, Before, before, Turning, Turned, Over}
use Rattle.tabling.proofs.Adding.{Outgrown}
use Rattle.tabling.proofs.Moves.{Node}
use Rattle.invariants.proofs.Going.{Kept, Indexed}
use Rattle.search.specs.declared.Front.{Front}
use Rattle.search.specs.declared.Front.TheVariants as front
use Rattle.search.specs.declared.Leave.{Leave}
use Rattle.search.specs.declared.Leave.TheVariants as leave
use Rattle.search.specs.declared.Job.{Job}
use Rattle.search.specs.declared.Spot.{Spot}

-- The words keep their lengths, their records and indexes stay in order, and no use is forgotten.
pub record Stays (most : ℕ) (calls list answers calls' list' : List ℕ) (n : ℕ) (answers' : List ℕ) (m : ℕ) : Type 0 where
  pub calls_long : length calls' ≡ length calls
  pub list_long : length list' ≡ length list
  pub answers_long : length answers' ≡ length answers
  pub kept : Kept most calls' list' n answers' m
  pub indexed : Indexed most calls' list' n answers' m
  pub uses_more : UsesGrew (uses_in calls list) (uses_in calls' list')

-- The node of the search at which a walk is.
abbrev pub spot_of : Spot → Node
spot_of spot = (spot.state.0, spot.last)

-- What was before the round of a job.
abbrev pub past_of : Job → Begin → Before
past_of job begun = before job.first job.old job.seen job.warm job.round begun

-- A step forward from place `at` in state s: the invariant one place on, nothing left here, or more records than places.
abbrev pub Stepped : Front → Bodies → (ℕ → State → Type 0) → Tables → Begin → Job → List ℕ → ℕ → ℕ → List ℕ → ℕ → Node → Tables → (ℕ → ℕ) → Uses
    → List ℕ → Type 0
Stepped (front.On s') bodies Root b begun job body cw aw chosen at s t marks uses chosen' =
    Turning bodies Root b job.known job.rule job.row job.walk (past_of job begun) body t marks uses chosen' (at + 1) (spot_of s')
    × (left job.known chosen' (at + 1) < left job.known chosen at)
Stepped front.Spent bodies Root b begun job body cw aw chosen at s t marks uses chosen' =
    Turned bodies Root b job.known job.rule job.row job.walk (past_of job begun) body t marks uses chosen' at s × (chosen' ≡ chosen)
Stepped front.Full bodies Root b begun job body cw aw chosen at s t marks uses chosen' = Outgrown bodies Root (room call_width cw) aw

-- A whole turn: as above, or back at place p with another answer, or the walk is over.
abbrev pub Leaving : Leave → Bodies → (ℕ → State → Type 0) → Tables → Begin → Job → List ℕ → ℕ → ℕ → List ℕ → ℕ → Tables → (ℕ → ℕ) → Uses
    → List ℕ → Type 0
Leaving (leave.On s') bodies Root b begun job body cw aw chosen at t marks uses chosen' =
    Turning bodies Root b job.known job.rule job.row job.walk (past_of job begun) body t marks uses chosen' (at + 1) (spot_of s')
    × (left job.known chosen' (at + 1) < left job.known chosen at)
Leaving (leave.Back p s') bodies Root b begun job body cw aw chosen at t marks uses chosen' =
    Turning bodies Root b job.known job.rule job.row job.walk (past_of job begun) body t marks uses chosen' p (spot_of s')
    × (left job.known chosen' p < left job.known chosen at)
Leaving leave.Done bodies Root b begun job body cw aw chosen at t marks uses chosen' =
    Over bodies Root b job.known job.rule job.row job.walk (past_of job begun) body t marks uses
Leaving leave.Full bodies Root b begun job body cw aw chosen at t marks uses chosen' = Outgrown bodies Root (room call_width cw) aw
