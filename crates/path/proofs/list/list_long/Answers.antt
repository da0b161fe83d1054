-- `list_long` meets its contract: the count, and if the path has not too many states the leads, the first state, and the rest. Assumes nothing.
use Rattle.std.specs.Prelude.{Some}
use Prim.Native.Nat.{ℕ, suc, ◌<◌, ◌≤◌}
use native.Mathlib.Omega.{arith}
use mathlib.Core.Path.{refl, ap, ◌∙◌}
use borrow.Author.Tests.{lt-ltb, le-ltb}
use lib.ListN.{length, length-set}
use Rattle.unfolding.proofs.Walk.{lent, added_by}
use Rattle.unfolding.proofs.Unrolling.{unrolled}
use Rattle.path.proofs.list.list_long.Goals as goal

pub returns-then-most-added : goal.returns-then-most-added
returns-then-most-added c =
    let a = c.args in
    let it = lent a.plain a.rules.now a.goal.now a.second.now a.calls.now a.answers.now in
    let full : a.most < suc (length (added_by it a.asked)) = omega (arith, c.count-added.ensures.1, c.if-most-added.true) in
    record { the_count = rw (lt-ltb _ _ full) refl; the_list = rw (lt-ltb _ _ full) refl }

pub unroll-requires : goal.unroll-requires
unroll-requires c =
    let p = c.requires in
    let counted = c.count-added.ensures in
    let led = c.lead_all.ensures in
    (p.0, omega (arith, led.0, p.3), omega (arith, counted.0, p.5), led.1, rw length-set (omega (arith, counted.2 (omega (arith, c.if-most-added.false)), c.if-most-added.false, p.1)))

pub overflow_add-result : goal.overflow_add-result
overflow_add-result c = omega (arith, c.if-most-added.false, c.requires.1, c.well_formed)

pub shape_of-states : goal.shape_of-states
shape_of-states c = c.unroll.ensures.long ∙ length-set c.args.states.now 0 c.start.result

pub returns : goal.returns
returns c =
    let a = c.args in
    let it = lent a.plain a.rules.now a.goal.now a.second.now a.calls.now a.answers.now in
    let exact = c.count-added.ensures.2 (omega (arith, c.if-most-added.false)) in
    let room : suc (length (added_by it a.asked)) ≤ a.most = omega (arith, exact, c.if-most-added.false) in
    record {
      the_count = rw (le-ltb _ _ room) (ap (λ (n : ℕ). Some n) (omega (arith, exact)));
      the_list = rw (le-ltb _ _ room) (unrolled _ _ a.states.now _ (omega (arith, room, c.requires.1)) (rw c.start.ensures at c.unroll.ensures));
    }
