-- n and the fields from `at` on make up all fields; what is left of the line gets less. Assumes nothing.
use Rattle.std.proofs.Common.{◌+◌, ◌-◌, ◌≡◌, ◌≤◌, length}
use Rattle.chars.specs.Inner.{fields_from}
use Rattle.fields.proofs.count_fields.Given as goal

abbrev pub invariant-loop-at : goal.invariant-loop-at
invariant-loop-at l = record {
  within : l.at ≤ l.e + 1;
  less : l.n + l.p ≤ l.at;
  counted : l.n + length (fields_from l.at l.e l.s) ≡ length (fields_from l.p l.e l.s);
}

abbrev pub decreases-loop-at : goal.decreases-loop-at
decreases-loop-at l = l.e + 1 - l.at
