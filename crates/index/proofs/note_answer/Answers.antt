-- `note_answer` meets its contract: the answer is noted in its bucket and joins the answers of its call record. Assumes nothing.
use native.Mathlib.Omega.{arith}
use Rattle.index.proofs.IndexLaws.{last_inside, answer_noted_by}
use Rattle.index.proofs.note_answer.Goals as goal

pub join-requires : goal.join-requires
join-requires c =
    let p = c.requires in
    let o = p.1 in
    let f = c.first_answer-f.ensures in
    let i = last_inside p.2 (omega (arith, p.0)) f c.last_of-end.ensures in
    (omega (arith, o.fits, o.long, f.high), omega (arith, o.fits, o.long, i), omega (arith, o.fits, o.small))

pub returns : goal.returns
returns c =
    let p = c.requires in
    answer_noted_by c.args.most p.2 (omega (arith, p.0)) (omega (arith, p.1.fits)) c.bucket.ensures.value c.first_answer-f.ensures
    c.last_of-end.ensures c.put.ensures c.note.ensures c.join.ensures
