-- `write_all` meets its contract. Assumes nothing.
use Prim.Native.Nat.{◌+◌}
use native.Mathlib.Omega.{arith}
use mathlib.Core.Path.{◌≡◌, sym, ◌∙◌}
use Rattle.unfolding.proofs.Walk.{lent}
use Rattle.unfolding.proofs.Writing.{written_none, written_skip, written_more, ready}
use Rattle.path.proofs.write.write_all.Goals as goal
use Rattle.path.proofs.write.write_all.Goals.{then-get-ne0, else-get-ne0}

pub loop-n-init : goal.loop-n-init
loop-n-init c = written_none _ _ _

pub get-requires : goal.get-requires
get-requires c = omega (arith, c.requires.offsets_long)

pub write-requires : goal.write-requires
write-requires c =
    let a = c.args in
    let it = lent a.plain a.rules.now a.goal.now a.second.now a.calls.now a.answers.now in
    ready it c.requires (omega arith) (omega (arith, c.if-get-ne0.true, c.get.ensures)) c.loop-n.invariant.long

pub loop-n-preserved : goal.loop-n-preserved
loop-n-preserved c =
    let a = c.args in
    let it = lent a.plain a.rules.now a.goal.now a.second.now a.calls.now a.answers.now in
    let i = c.loop-n.invariant in
    elim c.if-get-ne0.branch [ then-get-ne0 w ↦ rw w.list-is (written_more it i w.write.ensures) | else-get-ne0 w ↦ rw w.list-is (written_skip it i (sym c.get.ensures ∙ w.if-get-ne0.false)) ]

pub returns : goal.returns
returns c =
    let e : c.loop-n.n ≡ c.args.asked + 1 = omega arith in
    rw e at c.loop-n.invariant
