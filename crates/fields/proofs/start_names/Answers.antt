-- `start_names` meets its contract, one name after the other. Assumes nothing.
use Rattle.std.proofs.Common.{◌+◌, sym, ◌∙◌, arith}
use Rattle.std.proofs.Math.Seq.{slice}
use Rattle.chars.specs.Inner.{fields_from}
use Rattle.chars.proofs.Ends.{fields_gone, part_slice}
use Rattle.fields.specs.Held.{symbols_of}
use Rattle.fields.proofs.Verdicts.{refused_with}
use Rattle.fields.proofs.FieldVerdicts.{starts_stop, starts_go, starts_end}
use Rattle.fields.proofs.start_names.Goals as goal

pub returns-in_err-state : goal.returns-in_err-state
returns-in_err-state c =
    let s = c.args.s.now in
    let q = c.field_end-q in
    let p = part_slice s c.loop-at.at q.result q.ensures.from (let w = q.ensures.within in omega arith) in
    let v = rw p at (sym c.in_err-state.ensures) in
    let h = rw q.ensures.cut at c.loop-at.invariant.sofar in
    refused_with _ c.from_residual.result _ c.from_residual.ensures.1
    ∙ sym (h ∙ starts_stop (symbols_of c.args.n.now) c.loop-at.state.0 (slice c.loop-at.at q.result s) (fields_from (q.result + 1) c.args.e s) _ v)

pub loop-at-preserved : goal.loop-at-preserved
loop-at-preserved c =
    let s = c.args.s.now in
    let q = c.field_end-q in
    let w = q.ensures.within in
    let p = part_slice s c.loop-at.at q.result q.ensures.from (omega arith) in
    let v = rw p at (sym c.in_ok-state.ensures) in
    let h = rw q.ensures.cut at c.loop-at.invariant.sofar in
    let rest = fields_from (q.result + 1) c.args.e s in
    record {
      within = omega arith;
      sofar = h ∙ starts_go (symbols_of c.args.n.now) c.loop-at.state.0 (slice c.loop-at.at q.result s) rest _ v;
    }

pub returns : goal.returns
returns c =
    let h = rw (fields_gone c.args.s.now c.loop-at.at c.args.e c.loop-at-test.false) at c.loop-at.invariant.sofar in
    sym (h ∙ starts_end (symbols_of c.args.n.now) c.loop-at.state.0)
