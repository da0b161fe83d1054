-- `follow` meets its contract, by the step's kind. Assumes nothing.
use Prim.Native.Nat.{◌<◌}
use native.Mathlib.Omega.{arith}
use mathlib.Core.Path.{refl, sym, ◌∙◌}
use borrow.Author.Tests.{eq-eqb, ne_eqb}
use Rattle.steps.specs.Next.{onward}
use Rattle.records.specs.Storage.{calls_in, answers_in, call_width_of, answer_width_of}
use Rattle.checks.proofs.FollowLaws.{earlier_below, follow_call, follow_elementary}
use Rattle.checks.proofs.WidthLaws.{answer_within, answers_less}
use Rattle.checks.proofs.follow.follow.Goals as goal

pub earlier-requires : goal.earlier-requires
earlier-requires c = (answer_within c.args.plain c.args.n c.requires.long (omega arith), omega (arith, c.requires.most))

pub take-requires : goal.take-requires
take-requires c =
    let r = c.requires in
    let a = c.args in
    let rows = calls_in (call_width_of a.plain) a.calls.now 0 in
    let l : a.evidence < a.n = earlier_below rows (answers_in (answer_width_of a.plain) a.answers.now 0) a.n a.evidence (sym (c.earlier.ensures rows 0) ∙ c.if-earlier.true) in
    record { most = omega (arith, r.most); long = answers_less a.plain _ r.long (omega arith); called = λ x h. r.called x (omega arith) }

pub returns-then-earlier : goal.returns-then-earlier
returns-then-earlier c k m =
    let a = c.args in
    rw (follow_call _ _ _ _ _ _ (sym c.is_call.ensures ∙ c.if-is_call.true), ← c.earlier.ensures (calls_in (call_width_of a.plain) a.calls.now k) m, c.if-earlier.true, ← c.index.ensures) c.take.ensures

pub returns-then-is_call : goal.returns-then-is_call
unfolding onward
returns-then-is_call c k m =
    let a = c.args in
    rw (follow_call _ _ _ _ _ _ (sym c.is_call.ensures ∙ c.if-is_call.true), ← c.earlier.ensures (calls_in (call_width_of a.plain) a.calls.now k) m, c.if-earlier.false) refl

pub returns-then-evidence-eq0 : goal.returns-then-evidence-eq0
returns-then-evidence-eq0 c k m = rw (follow_elementary _ _ _ _ _ _ (sym c.is_call.ensures ∙ c.if-is_call.false), eq-eqb _ 0 c.if-evidence-eq0.true) c.elementary.ensures

pub returns : goal.returns
unfolding onward
returns c k m = rw (follow_elementary _ _ _ _ _ _ (sym c.is_call.ensures ∙ c.if-is_call.false), ne_eqb _ 0 c.if-evidence-eq0.false) refl
