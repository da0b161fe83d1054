-- `class` meets its contract: the starts passed are run in turn. Assumes nothing.
use Rattle.evaluator.specs.Evaluated.{asked, lent}
use Rattle.class.proofs.Running.{Done}
use Rattle.class.proofs.class.Given as goal

abbrev pub invariant-loop-i : goal.invariant-loop-i
invariant-loop-i l =
    Done (asked l.fluents l.actions l.rules l.goal) l.starts l.initial.results (lent l.initial.calls l.initial.answers l.initial.ends l.initial.list)
    l.i l.used l.results (lent l.calls l.answers l.ends l.list)
