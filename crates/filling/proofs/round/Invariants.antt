-- `round` meets its contract. The invariants of its loops (call records, rules, the walk) are the records of `Filling`; the measure of the walk is its own. Assumes nothing.
use Prim.Native.Nat.{◌-◌, ◌/◌}
use lib.ListN.{length}
use Rattle.steps.specs.Widths.{rule_width}
use Rattle.tabling.proofs.Measure.{left}
use Rattle.records.specs.Bodies.{bodies_with}
use Rattle.search.specs.Leaving.{spot_of}
use Rattle.invariants.proofs.Filling.{RowsDone, RulesDone, Walked}
use Rattle.filling.proofs.round.Given as goal

abbrev pub invariant-loop-after : goal.invariant-loop-after
invariant-loop-after l = Walked (bodies_with l.rules l.goals.first l.goals.second l.goal l.second) l.most l.first l.initial.calls l.initial.list l.initial.n l.initial.answers l.initial.m l.job.known l.job.rule l.job.row l.job.walk l.job.old l.job.seen l.job.warm l.job.round l.body l.calls l.list l.n l.answers l.m l.chosen l.rest (spot_of l.spot)

abbrev pub decreases-loop-after : goal.decreases-loop-after
decreases-loop-after l = left l.job.known l.chosen (length l.body - length l.rest)

abbrev pub invariant-loop-rule : goal.invariant-loop-rule
invariant-loop-rule l = RulesDone (bodies_with l.rules l.goals.first l.goals.second l.goal l.second) l.most l.first l.initial.calls l.initial.list l.initial.n l.initial.answers l.initial.m (length l.rules / rule_width) l.walked l.seen l.low l.high l.top l.span.old l.span.warm l.round l.rows l.known l.row l.rule l.calls l.list l.n l.answers l.m l.walk

abbrev pub invariant-loop-row : goal.invariant-loop-row
invariant-loop-row l = RowsDone (bodies_with l.rules l.goals.first l.goals.second l.goal l.second) l.most l.first l.initial.calls l.initial.list l.initial.n l.initial.answers l.initial.m l.walked l.seen l.low l.high l.top l.span.old l.span.warm l.round l.rows l.known l.row l.calls l.list l.n l.answers l.m l.walk
