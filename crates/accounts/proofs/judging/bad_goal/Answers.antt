use native.Mathlib.Omega.{arith}
use mathlib.Core.Path.{◌≡◌, sym, ◌∙◌}
use mathlib.Core.Bool.{true}
use lib.ListN.{length}
use Rattle.steps.specs.Acceptance.{good_step}
use Rattle.steps.proofs.EachBelow.{each_none, each_more}
use Rattle.sharing.specs.Parties.{account_at}
use Rattle.accounts.proofs.GoalWords.{word_bad, too_long, step_bad, all_good}
use Rattle.accounts.proofs.judging.bad_goal.Goals as goal

pub returns-then-count-gt16 : goal.returns-then-count-gt16
returns-then-count-gt16 c = sym (too_long _ _ _ (c.steps-count.ensures.many c.if-count-gt16.true))

pub loop-i-init : goal.loop-i-init
loop-i-init c = (omega (arith, c.if-count-gt16.false), c.steps-count.ensures.few (omega arith), each_none _)

pub loop-i-preserved : goal.loop-i-preserved
loop-i-preserved c =
    let l = c.loop-i in
    let w = c.step-word.ensures.word (omega arith) in
    (l.invariant.0, l.invariant.1, each_more _ _ l.invariant.2 (rw w at (sym c.good_step.ensures ∙ c.if-not-good_step.false)))

pub returns : goal.returns
returns c =
    let l = c.loop-i in
    let a = c.args in
    let e : l.i ≡ length (account_at a.kept.now a.at).goal = omega arith in
    sym (all_good _ _ _ (omega arith) (rw e at l.invariant.2))

pub returns-then-word-gt65535 : goal.returns-then-word-gt65535
returns-then-word-gt65535 c =
    let l = c.loop-i in
    let w = c.step-word.ensures.word (omega arith) in
    sym (step_bad _ _ _ (omega arith) l.i (omega arith) (word_bad _ _ _ (omega (arith, w))))

pub returns-then-not-good_step : goal.returns-then-not-good_step
returns-then-not-good_step c =
    let l = c.loop-i in
    let w = c.step-word.ensures.word (omega arith) in
    sym (step_bad _ _ _ (omega arith) l.i (omega arith) (rw w at (sym c.good_step.ensures ∙ c.if-not-good_step.true)))
