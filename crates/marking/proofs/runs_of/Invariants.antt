-- The steps passed leave the state come to. Assumes nothing.
use mathlib.Core.Path.{◌≡◌}
use lib.ListN.{take}
use Rattle.steps.specs.Words.{body_of}
use Rattle.steps.specs.Elementary.{on}
use Rattle.marking.specs.Marking.{left_by}
use Rattle.marking.proofs.runs_of.Given as goal

abbrev pub invariant-loop-i : goal.invariant-loop-i
invariant-loop-i l = left_by (take l.i (body_of l.recorded)) l.start ≡ on l.state.0
