-- `start_name` meets its contract, by the verdict on a used name and by whether it holds. Assumes nothing.
use Rattle.std.proofs.Common.{sym, ap, ◌∙◌, cond}
use borrow.Author.Tests.{lt-ltb}
use Rattle.steps.specs.State.{added}
use Rattle.fields.specs.Verdict.{accept}
use Rattle.fields.specs.Held.{symbols_of}
use Rattle.fields.proofs.Verdicts.{refused_with}
use Rattle.fields.proofs.FieldVerdicts.{start_refused, start_twice, start_once}
use Rattle.fields.proofs.start_name.Goals as goal

pub returns-in_err-k : goal.returns-in_err-k
returns-in_err-k c =
    let a = c.args in
    refused_with _ c.from_residual.result _ c.from_residual.ensures.1
    ∙ sym (start_refused (symbols_of a.n.now) a.state.0 a.name.now _ (sym c.in_err-k.ensures.number))

pub returns-then-holds : goal.returns-then-holds
returns-then-holds c =
    let a = c.args in
    sym (start_twice (symbols_of a.n.now) a.state.0 a.name.now c.in_ok-k.k (sym c.in_ok-k.ensures.number) (sym c.holds.ensures ∙ c.if-holds.true))

pub returns : goal.returns
returns c =
    let a = c.args in
    let k = c.in_ok-k.k in
    let t = ap (λ b. cond b (added a.state.0 k) a.state.0) (lt-ltb k 64 c.in_ok-k.ensures.small) in
    ap accept (c.insert.ensures ∙ t)
    ∙ sym (start_once (symbols_of a.n.now) a.state.0 a.name.now k (sym c.in_ok-k.ensures.number) (sym c.holds.ensures ∙ c.if-holds.false))
