-- `told` meets its contract: by whether the list has places for the ends. Assumes nothing.
use mathlib.Core.Path.{sym, ap}
use mathlib.Core.Bool.{Bool, cond}
use borrow.Author.Tests.{lt-ltb, le-ltb}
use Rattle.refusals.specs.Run.{run_refusals}
use Rattle.panel.specs.Reply.{reply}
use Rattle.panel.proofs.running.told.Goals as goal

pub returns-then-places-lone : goal.returns-then-places-lone
returns-then-places-lone c =
    let a = c.args in
    rw c.number.ensures
    (ap (λ (b : Bool). reply (cond b run_refusals.list_short 0) a.lone.ends a.lone.calls a.lone.answers a.kept.words)
    (sym (lt-ltb a.places a.lone.ends c.if-places-lone.true)))

pub returns : goal.returns
returns c =
    let a = c.args in
    ap (λ (b : Bool). reply (cond b run_refusals.list_short 0) a.lone.ends a.lone.calls a.lone.answers a.kept.words)
    (sym (le-ltb a.places a.lone.ends c.if-places-lone.false))
