-- `count_end` meets its contract. The loop's invariant: the fluents passed are counted, the others' counts are as they were, and `rest` has
-- the end's bits from the next fluent on. Assumes nothing.
use Prim.Native.Nat.{ℕ, ◌+◌, ◌/◌, ◌^◌, ◌<◌, ◌≤◌}
use mathlib.Core.Path.{◌≡◌}
use lib.ListN.{get_or}
use Rattle.steps.specs.State.{bit}
use Rattle.report.proofs.count_end.Given as goal

abbrev pub invariant-loop-count : goal.invariant-loop-count
invariant-loop-count l = record {
  shifted : l.rest ≡ l.end / 2 ^ l.count-index;
  counted : (j : ℕ) → j < l.count-index → get_or l.count-items j 0 ≡ get_or l.initial.count-items j 0 + bit l.end j;
  kept : (j : ℕ) → l.count-index ≤ j → get_or l.count-items j 0 ≡ get_or l.initial.count-items j 0;
}
