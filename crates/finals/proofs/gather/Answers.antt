use Rattle.std.proofs.Common.{◌<◌, sym, ◌∙◌, arith, length}
use Rattle.desk.specs.Desk.{packed_answers}
use Rattle.finals.proofs.FinalsLaws.{finals_place}
use Rattle.finals.proofs.Listing.{gathered_none, gathered_more, gathered_same}
use Rattle.finals.proofs.gather.Goals as goal
use Rattle.finals.proofs.gather.Goals.{then-call_of-row, else-call_of-row}

pub loop-x-init : goal.loop-x-init
loop-x-init c = (omega arith, gathered_none _ _ _)

pub bounds-list-found : goal.bounds-list-found
bounds-list-found c =
    let v = packed_answers c.args.answers.now c.args.m in
    let p = finals_place v c.args.row c.args.m c.loop-x.x (omega arith) (sym c.call_of.ensures ∙ c.if-call_of-row.true) in
    omega (arith, c.loop-x.invariant.1.counted)

pub loop-x-preserved : goal.loop-x-preserved
loop-x-preserved c =
    let a = c.args in
    let l = c.loop-x in
    let v = packed_answers a.answers.now a.m in
    let e = c.call_of.ensures in
    elim c.if-call_of-row.branch [
      | then-call_of-row w ↦
          (let t = sym e ∙ w.if-call_of-row.true in
          let k : l.found < length a.list.now = omega (arith, finals_place v a.row a.m l.x (omega arith) t, l.invariant.1.counted) in
          (omega arith, rw (w.list-is, w.found-is, w.final_of.ensures) (gathered_more v a.row l.invariant.1 t k)))
      | else-call_of-row w ↦ (omega arith, rw (w.list-is, w.found-is) (gathered_same v a.row l.invariant.1 (λ h. w.if-call_of-row.false (e ∙ h))))
    ]
