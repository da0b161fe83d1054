use Prim.Native.Nat.{ℕ, ◌+◌, ◌*◌, ◌^◌, ◌<◌}
use native.Mathlib.Omega.{arith}
use mathlib.Core.Path.{ap}
use mathlib.Core.List.{List}
use lib.ListN.{length, length-drop}
use Rattle.evaluator.specs.Evaluated.{lent}
use Rattle.evaluator.proofs.Determined.{list_kept}
use Rattle.class.proofs.Turns.{places_fit}
use Rattle.class.proofs.Running.{done_none, done_fits, done_room, done_long, done_more, done_as, done_all, too_many, too_short, rest_evaluated, part_back}
use Rattle.class.proofs.class.Goals as goal

pub returns-then-starts-gt-MOST_STARTS : goal.returns-then-starts-gt-MOST_STARTS
returns-then-starts-gt-MOST_STARTS c = rw c.number.ensures (too_many _ _ _ _ c.if-starts-gt-MOST_STARTS.true)

pub returns-then-results-starts : goal.returns-then-results-starts
returns-then-results-starts c = rw c.number-then-results-starts.ensures (too_short _ _ _ _ c.if-starts-gt-MOST_STARTS.false c.if-results-starts.true)

pub loop-i-init : goal.loop-i-init
loop-i-init c = done_none _ _ _ _

pub offset_bounds-ends-used : goal.offset_bounds-ends-used
offset_bounds-ends-used c =
    let fits = done_fits _ _ _ _ c.loop-i.invariant in
    let scaled : length c.loop-i.ends * 8 < 2 ^ 63 = rw (done_room _ _ _ _ c.loop-i.invariant).ends c.well_formed.1.1.1.1.1.1.1.1.0.1 in
    record { fits = omega (arith, fits, scaled) }

pub slice_bounds-evaluate-count : goal.slice_bounds-evaluate-count
slice_bounds-evaluate-count c = done_fits _ _ _ _ c.loop-i.invariant

pub slice_bounds-evaluate-start : goal.slice_bounds-evaluate-start
slice_bounds-evaluate-start c = done_fits _ _ _ _ c.loop-i.invariant

pub put-requires : goal.put-requires
put-requires c = omega (arith, done_long _ _ _ _ c.loop-i.invariant (omega (arith, c.if-results-starts.false)), c.if-results-starts.false)

pub overflow_add-used : goal.overflow_add-used
overflow_add-used c =
    let fits = done_fits _ _ _ _ c.loop-i.invariant in
    let scaled : length c.loop-i.ends * 8 < 2 ^ 63 = rw (done_room _ _ _ _ c.loop-i.invariant).ends c.well_formed.1.1.1.1.1.1.1.1.0.1 in
    let evaluated = rest_evaluated c.loop-i.used c.loop-i.ends c.evaluate-run.ensures in
    record { fits = omega (arith, c.taken.ensures, places_fit evaluated, list_kept evaluated, length-drop c.loop-i.used c.loop-i.ends, fits, scaled) }

pub loop-i-preserved : goal.loop-i-preserved
loop-i-preserved c =
    let left = c.evaluate-run.new in
    done_as _ _ _ _
    (ap (λ (n : ℕ). c.loop-i.used + n) c.taken.ensures)
    c.put.ensures
    (ap (λ (ends : List ℕ). lent left.calls left.answers ends left.list) (part_back c.loop-i.used c.loop-i.ends left.ends))
    (done_more _ _ _ _ c.loop-i.invariant (omega arith) (rest_evaluated c.loop-i.used c.loop-i.ends c.evaluate-run.ensures))

pub shape_of-results : goal.shape_of-results
shape_of-results c = done_long _ _ _ _ c.loop-i.invariant (omega (arith, c.if-results-starts.false))

pub shape_of-calls : goal.shape_of-calls
shape_of-calls c = (done_room _ _ _ _ c.loop-i.invariant).calls

pub shape_of-answers : goal.shape_of-answers
shape_of-answers c = (done_room _ _ _ _ c.loop-i.invariant).answers

pub shape_of-ends : goal.shape_of-ends
shape_of-ends c = (done_room _ _ _ _ c.loop-i.invariant).ends

pub shape_of-list : goal.shape_of-list
shape_of-list c = (done_room _ _ _ _ c.loop-i.invariant).list

pub returns : goal.returns
returns c = done_all _ _ _ _ c.if-starts-gt-MOST_STARTS.false c.if-results-starts.false (omega arith) (omega arith) c.loop-i.invariant
