-- `place_all` meets its contract. Assumes nothing.
use Prim.Native.Nat.{◌+◌, ◌-◌, ◌<◌}
use native.Mathlib.Omega.{arith}
use mathlib.Core.Path.{◌≡◌, refl, sym, ap, ◌∙◌}
use lib.ListN.{length, get_or, length-set}
use Rattle.cells.specs.Numbers.{numbers}
use Rattle.unfolding.proofs.Walk.{lent, checked_less}
use Rattle.unfolding.proofs.Sizes.{sized_less}
use Rattle.unfolding.proofs.Places.{laid_first, laid_skip, laid_more}
use Rattle.path.proofs.place.place_all.Goals as goal

pub put-requires : goal.put-requires
put-requires c = (c.requires.0.offsets_long, omega (arith, c.requires.1))

pub loop-n-init : goal.loop-n-init
loop-n-init c =
    let a = c.args in
    let it = lent a.plain a.rules.now a.goal.now a.second.now a.calls.now a.answers.now in
    record { long = refl; laid = rw c.put.ensures (laid_first it a.asked (numbers a.offsets.now) c.requires.0.offsets_long c.requires.0.empty) }

pub get-requires : goal.get-requires
get-requires c =
    let a = c.args in
    omega (arith, c.requires.0.offsets_long, c.loop-n.invariant.long, ap length c.put.ensures, length-set (numbers a.offsets.now) a.asked 1)

pub place-requires : goal.place-requires
place-requires c =
    let a = c.args in
    let i = c.loop-n.invariant in
    let pos : 0 < get_or (numbers c.loop-n.offsets) (c.loop-n.n - 1) 0 = omega (arith, c.if-get-ne0.true, c.get.ensures) in
    let p = c.requires.0 in (
      record {
        checked = checked_less (omega arith) p.checked;
        sizes_long = omega (arith, p.sizes_long);
        offsets_long = omega (arith, p.offsets_long, i.long, ap length c.put.ensures, length-set (numbers a.offsets.now) a.asked 1);
        roomy = record { cap = p.cap; small = p.small; sized = sized_less (omega arith) p.sized; room = omega (arith, (i.laid.placed _ pos).bound, p.room); after_first = pos };
      },
      omega (arith, (i.laid.placed _ pos).bound, c.requires.1),
    )

pub loop-n-preserved-then-get-ne0 : goal.loop-n-preserved-then-get-ne0
loop-n-preserved-then-get-ne0 c =
    let a = c.args in
    let it = lent a.plain a.rules.now a.goal.now a.second.now a.calls.now a.answers.now in
    let i = c.loop-n.invariant in
    let up : c.loop-n.n ≡ c.loop-n.n - 1 + 1 = omega arith in
    record { long = c.place.ensures.long ∙ i.long; laid = laid_more it (omega arith) (rw up at i.laid) (omega (arith, c.if-get-ne0.true, c.get.ensures)) c.place.ensures }

pub loop-n-preserved : goal.loop-n-preserved
loop-n-preserved c =
    let a = c.args in
    let it = lent a.plain a.rules.now a.goal.now a.second.now a.calls.now a.answers.now in
    let i = c.loop-n.invariant in
    let up : c.loop-n.n ≡ c.loop-n.n - 1 + 1 = omega arith in
    record { long = i.long; laid = laid_skip it (rw up at i.laid) (sym c.get.ensures ∙ c.if-get-ne0.false) }

pub returns : goal.returns
returns c =
    let e : c.loop-n.n ≡ 0 = omega arith in
    (c.loop-n.invariant.long ∙ ap length c.put.ensures ∙ simp length-set, rw e at c.loop-n.invariant.laid)
