-- `within` meets its contract: by the rows of the tables, or by those of the goal alone. Assumes nothing.
use native.Mathlib.Omega.{arith}
use mathlib.Core.Path.{refl, sym, subst, ◌∙◌}
use Rattle.matching.specs.Flags.{Whether}
use Rattle.balancing.specs.Balancing.{no_rows, by_both}
use Rattle.balancing.proofs.OwnLimits.{own_outgrown, own_counted}
use Rattle.balancing.proofs.limits.within.Goals as goal

pub returns-then-not-holds : goal.returns-then-not-holds
returns-then-not-holds c =
    let h = c.holds in
    record { calls_unchanged = (refl, refl); rows_len_unchanged = (refl, refl); sized = no_rows refl (sym h.ensures ∙ c.if-not-holds.true) }

pub returns-then-fits : goal.returns-then-fits
returns-then-fits c =
    let own = c.limits_of-own.ensures in
    let w = subst (Whether _) c.if-fits.true c.fits.ensures in
    record { calls_unchanged = (refl, refl); rows_len_unchanged = (refl, refl); sized = by_both refl (omega (arith, w.0, own.calls_value)) (omega (arith, w.1, own.answers_value)) }

pub returns-in-Err : goal.returns-in-Err
returns-in-Err c =
    let f = c.evaluated-evaluated.ensures in record {
      calls_unchanged = f.calls_unchanged;
      rows_len_unchanged = f.rows_len_unchanged;
      sized = own_outgrown c.args.rules.now _ c.requires.accepted.2 c.start-start.ensures (sym c.holds.ensures ∙ c.if-not-holds.false) c.in-Err.ensures.compared refl;
    }

pub returns-in-Ok : goal.returns-in-Ok
returns-in-Ok c =
    let own = c.limits_of-own.ensures in
    let f = c.evaluated-evaluated.ensures in record {
      calls_unchanged = f.calls_unchanged;
      rows_len_unchanged = f.rows_len_unchanged;
      sized = own_counted c.args.rules.now _ c.requires.accepted.2 c.start-start.ensures (sym c.holds.ensures ∙ c.if-not-holds.false) c.in-Ok.ensures.compared
          c.fits-in-Ok.result refl own.calls_value own.answers_value c.fits-in-Ok.ensures;
    }
