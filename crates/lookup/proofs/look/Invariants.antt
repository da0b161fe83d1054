-- `look` meets its contract. The invariant: what is left to look in tells the answer; the measure: the places left. Assumes nothing.
use Prim.Native.Nat.{◌-◌, ◌≤◌}
use mathlib.Core.Path.{◌≡◌}
use Rattle.records.specs.Records.{call_table}
use Rattle.lookup.specs.Lookup.{look}
use Rattle.lookup.proofs.Looking.{look_in}
use Rattle.lookup.proofs.look.Given as goal

abbrev pub invariant-loop-low : goal.invariant-loop-low
invariant-loop-low l = (l.low ≤ l.high) × (l.high ≤ l.count) × (look_in (call_table l.calls l.count) l.list (l.action, l.state) l.low l.high ≡ look (call_table l.calls l.count) l.list (l.action, l.state) l.count 0 l.count)

abbrev pub decreases-loop-low : goal.decreases-loop-low
decreases-loop-low l = l.high - l.low
