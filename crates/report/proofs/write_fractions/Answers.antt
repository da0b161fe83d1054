use native.Mathlib.Omega.{arith}
use mathlib.Core.Path.{◌∙◌}
use lib.ListN.{get_or, length-take}
use lib.Seq.{get_or-take}
use Rattle.report.proofs.Written.{fractions_none, fractions_more}
use Rattle.report.proofs.write_fractions.Goals as goal

pub loop-k-init : goal.loop-k-init
loop-k-init c = fractions_none _ _ _

pub loop-k-preserved : goal.loop-k-preserved
loop-k-preserved c =
    let now = c.loop-k in
    let a = c.args in
    let one = rw (get_or-take a.n a.counts.now now.k 0 (omega (arith, length-take a.n a.counts.now))) at c.write_fraction.ensures in
    one ∙ fractions_more now.k (λ k. get_or a.counts.now k 0) a.d a.out.now now.out now.invariant
