-- The records passed are good. Assumes nothing.
use mathlib.Core.Path.{◌≡◌}
use mathlib.Core.Bool.{true}
use Rattle.steps.specs.Acceptance.{each_below}
use Rattle.records.specs.Storage.{calls_in, call_width_of}
use Rattle.checks.specs.Checks.{good_record}
use Rattle.checks.proofs.tables.good_calls.Given as goal

abbrev pub invariant-loop-i : goal.invariant-loop-i
invariant-loop-i l =
    each_below l.i (good_record l.plain l.goals.first l.goals.second l.fluents l.actions (calls_in (call_width_of l.plain) l.calls l.call_count)) ≡ true
