-- `reach` meets its contract. Assumes nothing.
use Prim.Native.Nat.{◌+◌, ◌<◌}
use borrow.Author.Rules.{rules}
use native.Mathlib.Omega.{arith}
use mathlib.Core.Path.{sym, ◌∙◌}
use Rattle.steps.proofs.StateLaws.{one_shl}
use Rattle.masks.proofs.Walking.{reach_call, reach_late, reach_unlike, reach_next}
use Rattle.masks.proofs.reach.Goals as goal
use Rattle.masks.proofs.reach.Goals.{else-p-runs-via-then-p-runs+else-recorded-p, else-p-runs-via-else-p-runs}

pub returns-then-is_call : goal.returns-then-is_call
returns-then-is_call c =
    let called = sym c.is_call.ensures ∙ c.if-is_call.true in
    rw c.index-action.ensures (reach_call _ _ _ c.requires.0 _ _ c.requires.2 called c.requires.1)

pub returns-then-recorded-p : goal.returns-then-recorded-p
returns-then-recorded-p c =
    let plain = sym c.is_call.ensures ∙ c.if-is_call.false in
    let low : c.args.p < c.args.runs = omega arith in
    let next : c.args.p + 1 < 64 = omega arith in
    rw (one_shl (c.args.p + 1) next) (reach_next _ _ _ c.requires.0 _ _ c.requires.2 plain low (search rules))

pub returns : goal.returns
returns c =
    let plain = sym c.is_call.ensures ∙ c.if-is_call.false in
    elim c.else-p-runs.branch [
      | else-p-runs-via-then-p-runs+else-recorded-p w ↦ reach_unlike _ _ _ c.requires.0 _ _ c.requires.2 plain w.if-recorded-p.false
      | else-p-runs-via-else-p-runs w ↦ reach_late _ _ _ c.requires.0 _ _ c.requires.2 plain w.if-p-runs.false
    ]
