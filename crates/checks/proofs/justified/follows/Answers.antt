-- `follows` meets its contract. Assumes nothing.
use native.Mathlib.Omega.{arith}
use mathlib.Core.Path.{◌≡◌, refl, sym, ◌∙◌}
use borrow.Author.Tests.{eq-eqb, ne_eqb}
use lib.ListN.{length}
use Rattle.steps.specs.Next.{onward}
use Rattle.checks.proofs.WidthLaws.{answer_within, answer_others}
use Rattle.checks.proofs.FollowLaws.{follows_on, follows_stuck, follows_end}
use Rattle.checks.proofs.justified.follows.Goals as goal

pub loop-q-init : goal.loop-q-init
loop-q-init c k m = refl

pub evidence_of-evidence-requires : goal.evidence_of-evidence-requires
evidence_of-evidence-requires c = (answer_others c.args.plain c.args.n c.answer_width-width.ensures (answer_within c.args.plain c.args.n c.requires.0.long (omega arith)), omega arith)

pub returns-in-None : goal.returns-in-None
unfolding onward
returns-in-None c k m =
    let l = c.loop-q in
    sym (sym (l.invariant k m) ∙ follows_stuck _ _ _ c.args.body.now l.q l.state.0 c.loop-q-test.true (rw (c.evidence_of-evidence.ensures, c.answer_width-width.ensures) at (c.in-None.ensures k m)))

pub loop-q-preserved : goal.loop-q-preserved
unfolding onward
loop-q-preserved c k m =
    let l = c.loop-q in
    sym (follows_on _ _ _ c.args.body.now l.q l.state.0 _ c.loop-q-test.true (rw (c.evidence_of-evidence.ensures, c.answer_width-width.ensures) at (c.in-Some.ensures k m))) ∙ l.invariant k m

pub final_of-requires : goal.final_of-requires
final_of-requires c = answer_others c.args.plain c.args.n c.answer_width-width.ensures (answer_within c.args.plain c.args.n c.requires.0.long (omega arith))

pub unused-requires : goal.unused-requires
unused-requires c = (answer_within c.args.plain c.args.n c.requires.0.long (omega arith), omega (arith, c.requires.0.most), omega arith)

pub returns-then-state-final_of : goal.returns-then-state-final_of
returns-then-state-final_of c k m =
    let l = c.loop-q in
    let e : l.q ≡ length c.args.body.now = omega arith in
    sym (sym (l.invariant k m) ∙ follows_end _ _ _ c.args.body.now l.q l.state.0 (omega arith)
    ∙ rw (eq-eqb _ _ (rw (c.final_of.ensures, c.answer_width-width.ensures) at c.if-state-final_of.true)) (sym (rw (← e) at c.unused.ensures)))

pub returns-else-state-final_of : goal.returns-else-state-final_of
returns-else-state-final_of c k m =
    let l = c.loop-q in
    sym (sym (l.invariant k m) ∙ follows_end _ _ _ c.args.body.now l.q l.state.0 (omega arith)
    ∙ rw (ne_eqb _ _ (rw (c.final_of.ensures, c.answer_width-width.ensures) at c.if-state-final_of.false)) (sym (ne_eqb _ _ c.if-state-final_of.false)))
