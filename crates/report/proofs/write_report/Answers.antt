-- `write_report` meets its contract: the checks in the request's order. Assumes nothing.
use Prim.Native.Nat.{ℕ, ◌+◌, ◌*◌}
use native.Mathlib.Omega.{arith}
use mathlib.Core.Path.{◌≡◌, refl, sym, ap, ◌∙◌}
use mathlib.Core.Bool.{Bool, true, false}
use mathlib.Core.List.{List, ◌++◌}
use lib.ListN.{length, drop, get_or-replicate}
use Rattle.std.proofs.lemmas.Result.{err_from_is_err_and}
use Rattle.report.proofs.Results.{lent_le}
use Rattle.report.proofs.Outcomes.{figures_are, refused_20, refused_26, refused_27, unrefused}
use Rattle.report.proofs.write_report.Goals as goal

pub returns-then-fluents-gt64 : goal.returns-then-fluents-gt64
returns-then-fluents-gt64 c =
    let a = c.args in
    let r = refused_20 a.fluents a.results.now a.ends.now a.out.now c.if-fluents-gt64.true in
    record { value = r.0; out_after = r.1 }

pub returns-in_err-runs : goal.returns-in_err-runs
returns-in_err-runs c =
    let a = c.args in
    let p = err_from_is_err_and c.from_residual.result c.from_residual.ensures.1 in
    let (starts, number) = c.in_err-runs.ensures in
    let r = refused_26 a.fluents a.results.now a.ends.now a.out.now c.if-fluents-gt64.false (rw starts refl) in
    record { value = rw (p.1, p.2, number) r.0; out_after = r.1 }

pub tally-requires : goal.tally-requires
tally-requires c =
    let a = c.args in
    (omega arith, refl, lent_le a.results.now (length a.ends.now) c.in_ok-runs.ensures.0, (λ k l. get_or-replicate 64 k 0 0 l))

pub returns-in_err-held : goal.returns-in_err-held
returns-in_err-held c =
    let a = c.args in
    let p = err_from_is_err_and c.from_residual-in_err-held.result c.from_residual-in_err-held.ensures.1 in
    let (ends, number) = c.in_err-held.ensures in
    let r = refused_26 a.fluents a.results.now a.ends.now a.out.now c.if-fluents-gt64.false (rw (c.in_ok-runs.ensures.0, ends) refl) in
    record { value = rw (p.1, p.2, number) r.0; out_after = r.1 }

pub returns-then-out-fluents : goal.returns-then-out-fluents
returns-then-out-fluents c =
    let a = c.args in
    let r = refused_27 a.fluents a.results.now a.ends.now a.out.now c.if-fluents-gt64.false (rw (c.in_ok-runs.ensures.0, c.in_ok-held.ensures.0) refl) c.if-out-fluents.true in
    record { value = r.0; out_after = r.1 }

pub returns : goal.returns
returns c =
    let a = c.args in
    let (starts, runs) = c.in_ok-runs.ensures in
    let (ends, held, counts) = c.in_ok-held.ensures in
    let (none, output) = unrefused a.fluents a.results.now a.ends.now a.out.now c.if-fluents-gt64.false (rw (starts, ends) refl) c.if-out-fluents.false in
    let figures = figures_are a.fluents a.results.now a.ends.now c.tally.new.counts _ _ counts held runs in
    record { value = none; out_after = c.write_figures.ensures ∙ ap (λ (l : List ℕ). l ++ drop (2 * a.fluents + 4) a.out.now) figures ∙ output }
