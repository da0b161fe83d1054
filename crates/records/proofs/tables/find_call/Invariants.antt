-- No record before i is of the call. Assumes nothing.
use Rattle.std.proofs.Common.{ℕ, ◌<◌}
use Rattle.records.specs.Records.{call_table}
use Rattle.records.specs.Storage.{CallAt}
use Rattle.records.proofs.tables.find_call.Given as goal

abbrev pub invariant-loop-i : goal.invariant-loop-i
invariant-loop-i l = (j : ℕ) → j < l.i → CallAt (call_table l.calls l.n) j l.call.action l.call.state.0 → ⊥
