-- `give` meets its contract: what lies below the free words stays till the answers are given. Assumes nothing.
use native.Mathlib.Omega.{arith}
use mathlib.Core.Path.{◌∙◌}
use Rattle.steps.specs.Run.{Goal}
use Rattle.records.specs.Records.{call_table}
use Rattle.desk.specs.Desk.{packed_answers, AnswersClosed}
use Rattle.finals.specs.Finals.{CallFinals}
use Rattle.finals.proofs.FinalsLaws.{call_finals_given}
use Rattle.evaluator.proofs.Given.{calls_once_given, closed_below}
use Rattle.evaluator.proofs.give.Goals as goal

pub overflow_mul-free : goal.overflow_mul-free
overflow_mul-free c = omega (arith, c.room_of-free.ensures)

pub of_call-found-requires : goal.of_call-found-requires
of_call-found-requires c =
    let p = c.requires in
    let long = c.close_calls.ensures.long in
    let free = c.room_of-free.ensures in
    record { n_in_bounds = (omega (arith, long, p.n_in_bounds.0), p.n_in_bounds.1, omega (arith, p.m_bound.0), omega (arith, p.m_bound.0)); m_in_bounds = (omega (arith, free, p.m_bound.0), p.m_bound.1) }

pub list-requires : goal.list-requires
list-requires c =
    let p = c.requires in
    let C = c.close_calls.ensures in
    let free = c.room_of-free.ensures in
    let B = c.of_call-found.ensures.below in
    record { n_in_bounds = (omega (arith, C.long, p.n_in_bounds.0), p.n_in_bounds.2, calls_once_given C p.n_in_bounds.3); at_in_bounds = omega (arith, free, B.long) }

pub close_answers-requires : goal.close_answers-requires
close_answers-requires c =
    let fits = c.requires.m_bound.0 in
    let long = c.list.ensures.below.long ∙ c.of_call-found.ensures.below.long in
    (omega (arith, fits, long), omega (arith, fits))

pub returns : goal.returns
returns c =
    let L = c.list.ensures in
    let free = c.room_of-free.ensures in
    let A : AnswersClosed c.args.answers.now c.args.m c.close_answers.new.answers = closed_below (omega (arith, free, c.requires.m_bound.0)) c.of_call-found.ensures.below
    (closed_below (omega (arith, free, c.requires.m_bound.0)) L.below c.close_answers.ensures) in
    record { calls_closed = (c.close_calls.ensures, A); calls_listed = (L.calls_listed, call_finals_given A ((let of_goal : CallFinals (call_table c.close_calls.new.calls c.args.n) (packed_answers c.args.answers.now c.args.m) Goal c.args.start c.of_call-found.result c.args.ends.now c.of_call-found.new.ends = rw (← c.goal.ensures.0, ← c.goal.ensures.1) c.of_call-found.ensures.call_finals in of_goal))) }
