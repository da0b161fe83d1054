-- What counts within their rooms, and words that are accepted, give. Assumes nothing.
use Prim.Native.Nat.{ℕ, ◌*◌, ◌≤◌}
use native.Mathlib.Omega.{arith}
use mathlib.Core.Path.{◌≡◌, refl}
use mathlib.Core.Bool.{Bool, true, false, ◌||◌}
use mathlib.Core.List.{List}
use lib.ListN.{length}
use lib.Dec.{ltb}
use borrow.Author.Tests.{ltb-false}
use Rattle.steps.specs.Acceptance.{words_refusal}
use Rattle.steps.proofs.EachBelow.{true_not_false}
use Rattle.steps.proofs.AcceptanceLaws.{accepted}
use Rattle.records.specs.Records.{room, call_width, answer_width}
use Rattle.checks.specs.Checks.{over_room}
use Rattle.records.specs.Bodies.{Short}
use Rattle.records.proofs.BodyLaws.{short_of}

-- Both counts are of records that stand.
pub record Within (calls : List ℕ) (call_count : ℕ) (answers : List ℕ) (answer_count : ℕ) : Type 0 where
  pub calls_fit : call_width * call_count ≤ length calls
  pub calls_most : call_count ≤ 65536
  pub answers_fit : answer_width * answer_count ≤ length answers
  pub answers_most : answer_count ≤ 65536

neither : (a b : Bool) → (a || b) ≡ false → (a ≡ false) × (b ≡ false)
neither true b e = absurd (true_not_false e)
neither false b e = (refl, e)

pub within : (calls : List ℕ) (k : ℕ) (answers : List ℕ) (m : ℕ) → over_room calls k answers m ≡ false → Within calls k answers m
unfolding over_room
within calls k answers m e =
    let (c, a) = neither (ltb (room call_width (length calls)) k) _ e in
    let l = ltb-false (room call_width (length calls)) k c in
    let h = ltb-false (room answer_width (length answers)) m a in
    record { calls_fit = omega arith; calls_most = omega arith; answers_fit = omega arith; answers_most = omega arith }

pub short : (fluents actions : ℕ) (rules goal : List ℕ) → words_refusal fluents actions rules goal ≡ 0 → Short rules goal
short fluents actions rules goal e = short_of rules goal (accepted fluents actions rules goal e)
