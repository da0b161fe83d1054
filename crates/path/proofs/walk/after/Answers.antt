-- `after` meets its contract, by the step's kind: a call is known to go on, and any other step not to be stuck. Assumes nothing.
use Prim.Native.Nat.{ℕ}
use native.Mathlib.Omega.{arith}
use mathlib.Core.Path.{sym, subst, ◌∙◌}
use Rattle.steps.specs.Next.{onward}
use Rattle.steps.proofs.WordLaws.{not_on, on_same}
use Rattle.checks.proofs.WidthLaws.{answer_within, answer_others}
use Rattle.unfolding.proofs.Walk.{LeadsTo, leads_below, leads_final, leads_elementary}
use Rattle.path.proofs.walk.after.Goals as goal

pub final_of-requires : goal.final_of-requires
final_of-requires c =
    let a = c.args in
    let below = leads_below (sym c.is_call.ensures ∙ c.if-is_call.true) c.requires.1.1 in
    answer_others a.plain a.evidence c.answer_width.ensures (answer_within a.plain a.evidence c.requires.0.long (omega (arith, below)))

pub returns-then-is_call : goal.returns-then-is_call
returns-then-is_call c =
    let a = c.args in
    let final = leads_final (sym c.is_call.ensures ∙ c.if-is_call.true) c.requires.1.1 in
    subst (λ (t : ℕ). LeadsTo a.plain a.calls.now a.answers.now a.n a.step a.state a.evidence t) (final ∙ sym (rw c.answer_width.ensures at c.final_of.ensures)) c.requires.1.1

pub returns-in-Some : goal.returns-in-Some
unfolding onward
returns-in-Some c =
    let a = c.args in
    let done = leads_elementary (sym c.is_call.ensures ∙ c.if-is_call.false) c.requires.1.1 in
    subst (λ (t : ℕ). LeadsTo a.plain a.calls.now a.answers.now a.n a.step a.state a.evidence t)
    (sym (on_same (rw c.of.ensures at c.in-Some.ensures ∙ done))) c.requires.1.1

pub returns-in-None : goal.returns-in-None
unfolding onward
returns-in-None c =
    let done = leads_elementary (sym c.is_call.ensures ∙ c.if-is_call.false) c.requires.1.1 in
    absurd (not_on (rw c.of.ensures at c.in-None.ensures ∙ done))
