-- What the records passed stand for. Assumes nothing.
use mathlib.Core.Path.{◌≡◌}
use lib.ListN.{length}
use Rattle.cells.specs.Numbers.{numbers}
use Rattle.unfolding.proofs.Walk.{lent, added_by}
use Rattle.unfolding.proofs.Leads.{Led}
use Rattle.path.proofs.link.lead_all.Given as goal

abbrev pub invariant-loop-n : goal.invariant-loop-n
invariant-loop-n l =
    let it = lent l.plain l.rules l.goal l.second l.calls l.answers in
    record { long : length (numbers l.leads) ≡ length (numbers l.initial.leads); led : Led (added_by it) (numbers l.leads) l.n }
