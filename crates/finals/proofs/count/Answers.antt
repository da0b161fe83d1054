use Rattle.std.proofs.Common.{sym, ◌∙◌, arith, length-append}
use Rattle.desk.specs.Desk.{packed_answers}
use Rattle.finals.proofs.FinalsLaws.{finals_none, finals_more, finals_same, finals_short}
use Rattle.finals.proofs.count.Goals as goal
use Rattle.finals.proofs.count.Goals.{then-call_of-row, else-call_of-row}

pub loop-x-init : goal.loop-x-init
loop-x-init c = rw finals_none

pub overflow_add-found : goal.overflow_add-found
overflow_add-found c = omega (arith, finals_short (packed_answers c.args.answers.now c.args.m) c.args.row c.loop-x.x)

pub loop-x-preserved : goal.loop-x-preserved
loop-x-preserved c =
    let v = packed_answers c.args.answers.now c.args.m in
    let row = c.args.row in
    let e = c.call_of.ensures in
    elim c.if-call_of-row.branch [
      | then-call_of-row w ↦ rw (finals_more v row (sym e ∙ w.if-call_of-row.true), length-append) (omega (arith, c.loop-x.invariant))
      | else-call_of-row w ↦ rw (finals_same v row (λ h. w.if-call_of-row.false (e ∙ h))) (omega (arith, c.loop-x.invariant))
    ]
