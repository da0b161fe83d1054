-- The verdict on all names is that on the names left, from the state so far; what is left of the line gets less. Assumes nothing.
use Rattle.std.proofs.Common.{◌+◌, ◌-◌, ◌≡◌, ◌≤◌}
use Rattle.chars.specs.Inner.{fields_from}
use Rattle.fields.specs.Field.{start_names}
use Rattle.fields.specs.Held.{symbols_of}
use Rattle.fields.proofs.start_names.Given as goal

abbrev pub invariant-loop-at : goal.invariant-loop-at
invariant-loop-at l = record {
  within : l.at ≤ l.e + 1;
  sofar : start_names (symbols_of l.n) 0 (fields_from l.p l.e l.s)
      ≡ start_names (symbols_of l.n) l.state.0 (fields_from l.at l.e l.s);
}

abbrev pub decreases-loop-at : goal.decreases-loop-at
decreases-loop-at l = l.e + 1 - l.at
