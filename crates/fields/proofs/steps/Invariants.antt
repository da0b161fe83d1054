-- The verdict on all steps is that on the steps from `at` on, after the words so far; what is left of the line gets less. Assumes nothing.
use Rattle.std.proofs.Common.{◌+◌, ◌-◌, ◌≡◌, ◌≤◌, length}
use Rattle.chars.specs.Inner.{fields_from}
use Rattle.fields.specs.Field.{step_words}
use Rattle.fields.specs.Held.{symbols_of, steps_of}
use Rattle.fields.proofs.Bodies.{prefix}
use Rattle.fields.proofs.steps.Given as goal

abbrev pub invariant-loop-at : goal.invariant-loop-at
invariant-loop-at l = record {
  within : l.at ≤ l.e + 1;
  few : l.body.len + length (fields_from l.at l.e l.s) ≤ 16;
  sofar : step_words (symbols_of l.n) (fields_from l.p l.e l.s)
      ≡ prefix (steps_of l.body) (step_words (symbols_of l.n) (fields_from l.at l.e l.s));
}

abbrev pub decreases-loop-at : goal.decreases-loop-at
decreases-loop-at l = l.e + 1 - l.at
