-- `mark` meets its contract. Assumes nothing.
use native.Mathlib.Omega.{arith}
use mathlib.Core.Path.{sym}
use lib.ListN.{length}
use Rattle.refusals.proofs.Numbers.{number-not_zero}
use Rattle.marking.specs.Marking.{question}
use Rattle.marking.proofs.Marks.{size_recorded}
use Rattle.marking.proofs.Outcomes.{room_enough, taken_of, walkable_of, goal_good, guide_of, cleared_sound, refused_outcome, marked_outcome}
use Rattle.marking.proofs.mark.Goals as goal

pub returns-in-Err : goal.returns-in-Err
returns-in-Err c = rw c.number.ensures (refused_outcome _ _ _ c.in-Err.ensures (number-not_zero _))

pub clear-requires : goal.clear-requires
clear-requires c =
    let a = c.args in
    let q = question a.fluents a.actions a.rules.now a.goal.now a.start a.recorded.now in
    room_enough q (length a.table.now) (sym c.in_default.ensures)

pub settle_all-requires : goal.settle_all-requires
settle_all-requires c =
    let a = c.args in
    let q = question a.fluents a.actions a.rules.now a.goal.now a.start a.recorded.now in
    let e = sym c.in_default.ensures in
    let taken = taken_of q (length a.table.now) e c.runs_of-runs.ensures in
    let cleared = c.clear.ensures in
    (guide_of taken _ (omega (arith, room_enough q (length a.table.now) e, cleared.size)), walkable_of taken, cleared_sound _ _ _ cleared)

pub walk_mask-ends-requires : goal.walk_mask-ends-requires
walk_mask-ends-requires c =
    let a = c.args in
    let q = question a.fluents a.actions a.rules.now a.goal.now a.start a.recorded.now in
    let e = sym c.in_default.ensures in
    let taken = taken_of q (length a.table.now) e c.runs_of-runs.ensures in
    let cleared = c.clear.ensures in
    let all = c.settle_all.ensures in
    (guide_of taken _ (omega (arith, room_enough q (length a.table.now) e, cleared.size, all.size)), omega arith, goal_good taken)

pub overflow_shr-result : goal.overflow_shr-result
overflow_shr-result c =
    let a = c.args in
    let q = question a.fluents a.actions a.rules.now a.goal.now a.start a.recorded.now in
    let e = sym c.in_default.ensures in
    let taken = taken_of q (length a.table.now) e c.runs_of-runs.ensures in
    omega (arith, taken.few, taken.ran.within, size_recorded q)

pub returns : goal.returns
returns c =
    let a = c.args in
    let q = question a.fluents a.actions a.rules.now a.goal.now a.start a.recorded.now in
    let e = sym c.in_default.ensures in
    marked_outcome q a.table.now _ _ e _ c.runs_of-runs.ensures c.clear.ensures c.settle_all.ensures _ c.walk_mask-ends.ensures
