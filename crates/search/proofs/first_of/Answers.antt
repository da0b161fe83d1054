-- `first_of` meets its contract. Assumes nothing.
use Rattle.invariants.proofs.Turn.{of_all, of_looked, of_new}
use Rattle.invariants.proofs.Going.{tail_last}
use Rattle.search.proofs.first_of.Goals as goal

pub returns-then-is_old : goal.returns-then-is_old
returns-then-is_old c =
    let a = c.args in
    let f = c.first_new.ensures a.calls.now in (
      f.high,
      λ begun body q. of_new (c.if-job-2.true, c.if-job.true) (c.is_old.ensures c.if-is_old.true) (tail_last a.rest.now body a.at q (c.is_last.ensures c.if-is_last.true)) f,
    )

pub returns-then-is_old-2 : goal.returns-then-is_old-2
returns-then-is_old-2 c =
    let f = c.first_looked.ensures c.args.calls.now in
    (f.high, λ begun body q. of_looked (c.if-job-2.true, c.if-job.true) (c.is_old-then-job-3.ensures c.if-is_old-2.true) c.if-job-3.true f)

pub returns-else-is_old : goal.returns-else-is_old
returns-else-is_old c = (c.first_answer-first.ensures.high, λ begun body q. of_all c.first_answer-first.ensures)

pub returns-else-is_old-2 : goal.returns-else-is_old-2
returns-else-is_old-2 c = (c.first_answer-first.ensures.high, λ begun body q. of_all c.first_answer-first.ensures)

pub returns-else-job-3 : goal.returns-else-job-3
returns-else-job-3 c = (c.first_answer-first.ensures.high, λ begun body q. of_all c.first_answer-first.ensures)

pub returns-else-job-2 : goal.returns-else-job-2
returns-else-job-2 c = (c.first_answer-first.ensures.high, λ begun body q. of_all c.first_answer-first.ensures)

pub returns-else-job : goal.returns-else-job
returns-else-job c = (c.first_answer-first.ensures.high, λ begun body q. of_all c.first_answer-first.ensures)
