-- `goal_refusal` meets its contract: by whether the goal could be read. Assumes nothing.
use native.Mathlib.Omega.{arith}
use mathlib.Core.Path.{sym, ◌∙◌}
use lib.Seq.{length-take-le}
use Rattle.std.proofs.lemmas.Result.{err_from_is_err_and}
use Rattle.refusals.proofs.Numbers.{number-not_zero}
use Rattle.sharing.proofs.Refusals.{refused_any, refused_goal}
use Rattle.tracing.proofs.goal_refusal.Goals as goal

pub slice_bounds-words_refusal-end : goal.slice_bounds-words_refusal-end
slice_bounds-words_refusal-end c = sym (length-take-le c.args.count c.args.goal.now (omega (arith, c.requires, c.if-count-le-MOST_STEPS.true)))

pub returns-then-count-le-MOST_STEPS : goal.returns-then-count-le-MOST_STEPS
returns-then-count-le-MOST_STEPS c = (λ e. c.if-count-le-MOST_STEPS.true, λ words places r. rw (r.read c.if-count-le-MOST_STEPS.true) at c.words_refusal.ensures)

pub returns-in_err-words_refusal : goal.returns-in_err-words_refusal
returns-in_err-words_refusal c =
    let p = err_from_is_err_and c.from_residual.result c.from_residual.ensures.1 in
    let told = c.in_err-words_refusal.ensures in
    rw (p.1, p.2) (λ e. absurd (number-not_zero _ e), λ words places r. told ∙ sym (refused_any _ _ _ words (λ e. number-not_zero _ (told ∙ e))))

pub returns : goal.returns
returns c = (
  λ e. absurd (omega (arith, e)),
  λ words places r. (let a = c.args in
      sym (refused_goal a.fluents a.actions a.rules.now words (sym c.in_ok-words_refusal.ensures) (r.none (omega (arith, c.if-count-le-MOST_STEPS.false)) a.fluents a.actions))),
)
