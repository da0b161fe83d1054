-- `tally` meets its contract. The loop's invariant: the ends passed are good and counted, by fluent and in all. Assumes nothing.
use Prim.Native.Nat.{ℕ, ◌<◌}
use mathlib.Core.Path.{◌≡◌}
use mathlib.Core.Bool.{true, not}
use lib.ListN.{length, get_or}
use Rattle.steps.specs.State.{bit}
use Rattle.steps.specs.Acceptance.{each_below, bad_state}
use Rattle.report.specs.Figures.{sum_below, held}
use Rattle.report.proofs.tally.Given as goal

abbrev pub invariant-loop-end : goal.invariant-loop-end
invariant-loop-end l = record {
  good : each_below l.end-index (λ i. not (bad_state l.fluents (get_or l.ends i 0))) ≡ true;
  summed : l.sum ≡ sum_below l.end-index (λ i. held (get_or l.ends i 0));
  counted : (k : ℕ) → k < l.fluents → get_or l.counts k 0 ≡ sum_below l.end-index (λ i. bit (get_or l.ends i 0) k);
}
