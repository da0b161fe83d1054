use native.Mathlib.Omega.{arith}
use mathlib.Core.Path.{◌≡◌}
use lib.Pow.{pow_pos}
use borrow.Author.Rules.{rules}
use Rattle.steps.proofs.StateLaws.{one_shl, has}
use Rattle.masks.proofs.Walking.{spread_none, spread_all, spread_rest, spread_more}
use Rattle.masks.proofs.spread.Goals as goal

pub loop-rest-init : goal.loop-rest-init
loop-rest-init c = (search rules, λ k e. e, spread_none _ _)

pub lowest-p-requires : goal.lowest-p-requires
lowest-p-requires c = omega arith

pub overflow_sub-rest : goal.overflow_sub-rest
overflow_sub-rest c = let (lp, first) = c.lowest-p.ensures in rw (one_shl _ lp) (has _ _ first)

pub loop-rest-smaller : goal.loop-rest-smaller
loop-rest-smaller c =
    let (lp, first) = c.lowest-p.ensures in
    rw (one_shl _ lp) (omega (arith, has _ _ first, pow_pos c.lowest-p.result))

pub loop-rest-preserved : goal.loop-rest-preserved
loop-rest-preserved c =
    let (l, sub, m) = c.loop-rest.invariant in
    let (lp, first) = c.lowest-p.ensures in
    rw (one_shl _ lp) (omega arith, spread_rest _ _ _ first sub, spread_more _ _ _ _ lp first (sub _ first) m c.reach-out.ensures)

pub returns : goal.returns
returns c =
    let (l, sub, m) = c.loop-rest.invariant in
    let z : c.loop-rest.rest ≡ 0 = omega arith in
    spread_all _ _ (rw z at m)
