-- `walk_behind` meets its contract. Assumes nothing.
use Prim.Native.Nat.{◌/◌, ◌%◌}
use native.Mathlib.Omega.{arith}
use mathlib.Core.Path.{ap}
use lib.ListN.{length}
use borrow.Author.Rules.{rules}
use Rattle.steps.proofs.WordLaws.{words_short}
use Rattle.gains.proofs.Gaining.{came_behind}
use Rattle.gains.proofs.walk_behind.Goals as goal

pub rule_steps-body-requires : goal.rule_steps-body-requires
rule_steps-body-requires c = let count = c.if-rules-r.false in (omega arith, c.requires.0.walkable.counts _ (omega arith))

pub reach-found-requires : goal.reach-found-requires
reach-found-requires c =
    let r = c.requires.0 in
    let e = c.rule_steps-body.ensures in
    (r.guide, omega (arith, r.place, r.guide.within, r.guide.few), rw e (r.walkable.good _ (omega arith) (c.args.number % 17) (omega (arith, ap length e))))

pub walk_on-requires : goal.walk_on-requires
walk_on-requires c =
    let r = c.requires.0 in
    let e = c.rule_steps-body.ensures in
    let args = c.args in
    let few = r.walkable.counts (args.number / 17) (omega arith) in (
      r,
      omega arith,
      omega (arith, few, ap length e, words_short args.rules.now (args.number / 17)),
      came_behind _ _ _ _ args.number c.reach-found.result r (omega (arith, ap length e)) (search rules) (rw e at c.reach-found.ensures.only),
    )
