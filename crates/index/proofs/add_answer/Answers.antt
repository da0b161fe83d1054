-- `add_answer` meets its contract: the answer stood, is noted and added as one record more, or there is no room. Assumes nothing.
use Prim.Native.Nat.{◌+◌}
use native.Mathlib.Omega.{arith}
use Rattle.desk.specs.Desk.{AnswersOpen}
use Rattle.index.proofs.Additions.{answer_more_put, answer_more_open, answer_more_index}
use Rattle.index.proofs.add_answer.Goals as goal

pub returns-then-m-most-clause-answer_put : goal.returns-then-m-most-clause-answer_put
returns-then-m-most-clause-answer_put c =
    let a = c.args in
    let p = c.requires.answers_open in
    let few : AnswersOpen a.most a.answers.now (a.m + 1) = record { fits = omega (arith, c.if-m-most.true); small = p.0.small; long = p.0.long } in
    answer_more_put a.rule a.round a.evidence.now c.note_answer.ensures few c.put_answer.ensures c.requires.by_index (c.find_answer-x.ensures.1.absent c.if-x-m.false)

pub returns-then-m-most-clause-answers_open_2 : goal.returns-then-m-most-clause-answers_open_2
returns-then-m-most-clause-answers_open_2 c =
    let a = c.args in
    let p = c.requires.answers_open in
    let n = c.note_answer.ensures in
    let z = c.put_answer.ensures in
    let few : AnswersOpen a.most a.answers.now (a.m + 1) = record { fits = omega (arith, c.if-m-most.true); small = p.0.small; long = p.0.long } in
    (answer_more_open a.rule a.round a.evidence.now n few z, answer_more_index a.rule a.round a.evidence.now n few z c.requires.by_index)
