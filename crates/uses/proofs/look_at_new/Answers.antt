use Prim.Native.Nat.{ℕ, ◌+◌, ◌-◌, ◌<◌, min, max}
use native.Mathlib.Omega.{arith}
use mathlib.Core.Path.{◌≡◌, sym}
use Rattle.desk.specs.Desk.{packed_answers}
use Rattle.uses.specs.Uses.{uses_in}
use Rattle.uses.proofs.UsesLaws.{between_more}
use Rattle.uses.proofs.HeatLaws.{light_next}
use Rattle.uses.proofs.NoteLaws.{looks_trans}
use Rattle.uses.proofs.look_at_new.Goals as goal

pub loop-x-preserved : goal.loop-x-preserved
loop-x-preserved c =
    let a = c.args in
    let l = c.loop-x in
    let x : ℕ = l.x - 1 in
    let z : x + 1 ≡ l.x = omega arith in
    let e = c.call_of-k.ensures in
    let row : c.call_of-k.result < a.rows = rw e (c.requires.answers_held.0.inside x (omega arith)) in
    let U = uses_in a.calls.now a.list.now in
    let lo : c.min-low.result ≡ min l.low c.least_of.result = omega arith in
    let hi : c.max-high.result ≡ max l.high (c.greatest_of.result + 1) = omega arith in record {
      low = omega arith;
      high = omega arith;
      between = rw (hi, lo) (between_more (packed_answers a.answers.now a.known) U l.low l.high x a.known _ _ (rw z l.invariant.between) (rw e at c.least_of.ensures.0) (rw e at c.greatest_of.ensures.0));
      lighted = light_next (rw z l.invariant.lighted) (c.put_start.ensures.start_put a.calls.now) (omega arith) (omega arith) (sym e) (omega (arith, row, c.requires.answers_held.0.small));
      looks = looks_trans l.invariant.looks c.put_start.ensures.looks_alone;
    }
