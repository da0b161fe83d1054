-- `steps` meets its contract, one step after the other. Assumes nothing.
use Rattle.std.proofs.Common.{◌+◌, sym, ap, ◌∙◌, length, arith}
use Rattle.std.proofs.Math.Seq.{slice}
use Rattle.chars.specs.Inner.{fields_from}
use Rattle.chars.proofs.Ends.{fields_gone, part_slice}
use Rattle.fields.specs.Held.{symbols_of, steps_of}
use Rattle.fields.proofs.Verdicts.{refused_with}
use Rattle.fields.proofs.Bodies.{steps_stop, steps_go, steps_end, steps_begin}
use Rattle.fields.proofs.steps.Goals as goal

pub loop-at-init : goal.loop-at-init
loop-at-init c =
    record {
      within = omega arith;
      few = let n = c.new-body.ensures.count in omega arith;
      sofar = rw c.new-body.ensures.words (steps_begin _);
    }

pub returns-in_err-word : goal.returns-in_err-word
returns-in_err-word c =
    let s = c.args.s.now in
    let q = c.field_end-q in
    let p = part_slice s c.loop-at.at q.result q.ensures.from (let w = q.ensures.within in omega arith) in
    let v = rw p at (sym c.in_err-word.ensures.word) in
    let h = rw q.ensures.cut at c.loop-at.invariant.sofar in
    refused_with _ c.from_residual.result _ c.from_residual.ensures.1
    ∙ sym (h ∙ steps_stop (symbols_of c.args.n.now) (steps_of c.loop-at.body) (slice c.loop-at.at q.result s) (fields_from (q.result + 1) c.args.e s) _ v)

pub loop-at-preserved : goal.loop-at-preserved
loop-at-preserved c =
    let s = c.args.s.now in
    let q = c.field_end-q in
    let y = symbols_of c.args.n.now in
    let w = q.ensures.within in
    let x = ap length q.ensures.cut in
    let p = part_slice s c.loop-at.at q.result q.ensures.from (omega arith) in
    let v = rw p at (sym c.in_ok-word.ensures.word) in
    let h = rw q.ensures.cut at c.loop-at.invariant.sofar in
    let rest = fields_from (q.result + 1) c.args.e s in
    record {
      within = omega arith;
      few = let n = c.push.ensures.count in omega arith;
      sofar = h ∙ steps_go y (steps_of c.loop-at.body) (slice c.loop-at.at q.result s) rest c.in_ok-word.word v ∙ rw c.push.ensures.more;
    }

pub returns : goal.returns
returns c =
    let h = rw (fields_gone c.args.s.now c.loop-at.at c.args.e c.loop-at-test.false) at c.loop-at.invariant.sofar in
    sym (h ∙ steps_end (symbols_of c.args.n.now) (steps_of c.loop-at.body))
