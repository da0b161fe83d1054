use Prim.Native.Nat.{◌+◌, ◌-◌}
use native.Mathlib.Omega.{arith}
use mathlib.Core.Path.{◌≡◌}
use Rattle.stowing.proofs.AnswerStows.{stow_more, stow_all}
use Rattle.stowing.proofs.stow_answers.Goals as goal

pub loop-x-preserved : goal.loop-x-preserved
loop-x-preserved c =
    let l = c.loop-x in
    let e : l.x ≡ l.x - 1 + 1 = omega arith in
    stow_more (rw e at l.invariant) c.requires.1 (omega arith) (omega arith) (rw c.stow_of-stow.ensures at c.put_stow.ensures)

pub returns : goal.returns
returns c = let e : c.loop-x.x ≡ 0 = omega arith in stow_all (rw e at c.loop-x.invariant)
