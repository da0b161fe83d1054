-- `bad_record` meets its contract. Assumes nothing.
use Prim.Native.Nat.{ℕ, ◌<◌}
use borrow.Author.Rules.{rules}
use mathlib.Core.Path.{◌≡◌, ap}
use mathlib.Core.Bool.{true, not, ◌&&◌}
use lib.ListN.{length, get_or}
use Rattle.std.specs.Bool.{Decides}
use Rattle.steps.specs.Inner.{is_call}
use Rattle.steps.specs.Acceptance.{good_step}
use Rattle.marking.specs.Marking.{bad_recorded_steps}
use Rattle.marking.proofs.EachTested.{each_tested}
use Rattle.marking.proofs.bad_record.Goals as goal

pub returns : goal.returns
unfolding bad_recorded_steps
returns c =
    let a = c.args in
    let each : Decides c.all.result ((i : ℕ) → i < length a.recorded.now → (not (is_call (get_or a.recorded.now i 0)) && good_step a.fluents a.actions (get_or a.recorded.now i 0)) ≡ true) = search rules in
    ap not (each_tested _ _ _ each)
