use Prim.Native.Nat.{◌-◌, ◌<◌}
use native.Mathlib.Omega.{arith}
use mathlib.Core.Path.{◌≡◌, refl, sym, ap, ◌∙◌}
use mathlib.Core.Bool.{not}
use borrow.Author.Tests.{eq-eqb, ne_eqb}
use borrow.Author.Rules.{rules}
use Rattle.report.specs.Figures.{starts}
use Rattle.report.proofs.Results.{Passed, passed_none, passed_run, passed_refused, not_fours, over_1024, over_65536, all_passed}
use Rattle.report.proofs.check_starts.Goals as goal
use Rattle.report.proofs.check_starts.Goals.{then-results-i-eq0+else-ends-gt-MOST_ENDS, else-results-i-eq0}

pub returns-then-results-ne0 : goal.returns-then-results-ne0
returns-then-results-ne0 c = (not_fours _ _ c.if-results-ne0.true, refl)

pub returns-then-starts-gt1024 : goal.returns-then-starts-gt1024
returns-then-starts-gt1024 c = (over_1024 _ _ c.if-starts-gt1024.true, refl)

pub loop-i-init : goal.loop-i-init
loop-i-init c = passed_none _

pub returns-then-ends-gt-MOST_ENDS : goal.returns-then-ends-gt-MOST_ENDS
returns-then-ends-gt-MOST_ENDS c =
    let a = c.args in
    (over_65536 a.results.now a.lent c.loop-i.i (omega arith) c.if-results-i-eq0.true c.if-ends-gt-MOST_ENDS.true, refl)

pub overflow_add-runs : goal.overflow_add-runs
overflow_add-runs c = record { fits = omega (arith, c.loop-i.invariant.counted_le) }

pub overflow_add-sum : goal.overflow_add-sum
overflow_add-sum c = record { fits = omega (arith, c.loop-i.invariant.summed_le) }

pub loop-i-preserved : goal.loop-i-preserved
loop-i-preserved c =
    let results = c.args.results.now in
    let within : c.loop-i.i < starts results = omega arith in
    elim c.if-results-i-eq0.branch [
      | then-results-i-eq0+else-ends-gt-MOST_ENDS w ↦ rw (w.runs-is, w.sum-is) (passed_run results c.loop-i.invariant within w.if-results-i-eq0.true w.if-ends-gt-MOST_ENDS.false)
      | else-results-i-eq0 w ↦ rw (w.runs-is, w.sum-is) (passed_refused results c.loop-i.invariant within w.if-results-i-eq0.false)
    ]

pub returns-then-sum-lent : goal.returns-then-sum-lent
returns-then-sum-lent c =
    let a = c.args in
    let e : c.loop-i.i ≡ starts a.results.now = omega arith in
    let p : Passed a.results.now (starts a.results.now) c.loop-i.runs c.loop-i.sum = rw e at c.loop-i.invariant in
    let (bad, n) = all_passed a.results.now a.lent c.if-results-ne0.false c.if-starts-gt1024.false p in
    (sym bad ∙ ap not (ne_eqb _ _ c.if-sum-lent.true), refl)

pub returns : goal.returns
returns c =
    let a = c.args in
    let e : c.loop-i.i ≡ starts a.results.now = omega arith in
    let p : Passed a.results.now (starts a.results.now) c.loop-i.runs c.loop-i.sum = rw e at c.loop-i.invariant in
    let (bad, n) = all_passed a.results.now a.lent c.if-results-ne0.false c.if-starts-gt1024.false p in
    (sym bad ∙ ap not (eq-eqb _ _ c.if-sum-lent.false), n)
