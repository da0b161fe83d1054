-- `judge` meets its contract: either goal refused, or the path by both. Assumes nothing.
use native.Mathlib.Omega.{arith}
use mathlib.Core.Path.{sym, refl, ◌∙◌}
use lib.Seq.{length-take-le}
use Rattle.refusals.proofs.Numbers.{number-not_zero}
use Rattle.tracing.proofs.TracedLaws.{first_refused, second_told, bad_words, refused}
use Rattle.tracing.proofs.judge.Goals as goal

pub returns-in-Err : goal.returns-in-Err
returns-in-Err c =
    let a = c.args in
    let own = c.in-Err.ensures.1 _ _ c.requires.first_read in
    let told = own ∙ first_refused a.fluents a.actions a.rules.now a.kept.now a.calls.now a.answers.now (λ e. number-not_zero _ (own ∙ e)) in
    rw (c.refused.ensures.0, c.refused.ensures.1)
    (refused a.fluents a.actions a.rules.now a.kept.now a.calls.now a.answers.now a.«record» a.states.now _ (told ∙ bad_words a.fluents a.actions a.rules.now a.kept.now a.calls.now a.answers.now a.«record» (λ e. number-not_zero _ (told ∙ e))) (number-not_zero _))

pub returns-in-Err-goal_refusal : goal.returns-in-Err-goal_refusal
returns-in-Err-goal_refusal c =
    let a = c.args in
    let own = c.in_default.ensures.1 _ _ c.requires.first_read in
    let told = c.in-Err-goal_refusal.ensures.1 _ _ c.requires.second_read ∙ second_told a.fluents a.actions a.rules.now a.kept.now a.calls.now a.answers.now (sym own) in
    rw (c.refused-in-Err-goal_refusal.ensures.0, c.refused-in-Err-goal_refusal.ensures.1)
    (refused a.fluents a.actions a.rules.now a.kept.now a.calls.now a.answers.now a.«record» a.states.now _ (told ∙ bad_words a.fluents a.actions a.rules.now a.kept.now a.calls.now a.answers.now a.«record» (λ e. number-not_zero _ (told ∙ e))) (number-not_zero _))

pub slice_bounds-trace-end : goal.slice_bounds-trace-end
slice_bounds-trace-end c = sym (length-take-le c.args.n c.args.goal.now (omega (arith, c.in_default.ensures.0 refl, c.requires.first_long)))

pub slice_bounds-trace-end-2 : goal.slice_bounds-trace-end-2
slice_bounds-trace-end-2 c = sym (length-take-le c.args.m c.args.second.now (omega (arith, c.in_default-goal_refusal.ensures.0 refl, c.requires.second_long)))

pub trace-requires : goal.trace-requires
trace-requires c =
    let p = c.requires in
    let own = c.in_default.ensures in
    let other = c.in_default-goal_refusal.ensures in
    let first = p.first_read.read (own.0 refl) in
    let second = p.second_read.read (other.0 refl) in
    record {
      long = p.long;
      first_is = first;
      second_is = second;
      first_good = rw first (sym (own.1 _ _ p.first_read));
      second_good = rw second (sym (other.1 _ _ p.second_read));
    }
