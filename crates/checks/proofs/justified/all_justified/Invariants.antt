-- The records passed are justified. Assumes nothing.
use mathlib.Core.Path.{◌≡◌}
use mathlib.Core.Bool.{true}
use Rattle.steps.specs.Acceptance.{each_below}
use Rattle.records.specs.Records.{justified}
use Rattle.records.specs.Storage.{calls_in, answers_in, call_width_of, answer_width_of}
use Rattle.records.specs.Bodies.{bodies_with}
use Rattle.checks.proofs.justified.all_justified.Given as goal

abbrev pub invariant-loop-n : goal.invariant-loop-n
invariant-loop-n l =
    each_below l.n (λ x. justified (calls_in (call_width_of l.plain) l.calls l.call_count) (answers_in (answer_width_of l.plain) l.answers l.answer_count) x
    (bodies_with l.rules l.goals.first l.goals.second l.goal l.second)) ≡ true
