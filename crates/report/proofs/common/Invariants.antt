-- `common` meets its contract. The loop's invariant: the two numbers have the greatest common divisor of the first two; the measure: the
-- second of them. Assumes nothing.
use native.Mathlib.Nat.{mod-lt}
use native.Mathlib.Omega.{arith}
use mathlib.Core.Path.{◌≡◌, refl, sym, ap, ◌∙◌}
use borrow.Author.Rules.{rules}
use Rattle.report.specs.Fraction.{common}
use Rattle.report.proofs.Euclid.{common_end, common_step}
use Rattle.report.proofs.common.Given as goal

abbrev pub invariant-loop-b : goal.invariant-loop-b
invariant-loop-b l = common l.a l.b ≡ common l.n l.d

abbrev pub decreases-loop-b : goal.decreases-loop-b
decreases-loop-b l = l.b
