-- `call_lead` meets its contract, by the step's kind. Assumes nothing.
use mathlib.Core.Path.{refl, sym, ◌∙◌}
use Rattle.steps.proofs.EachBelow.{true_not_false}
use Rattle.path.proofs.Packed.{down_sub}
use Rattle.path.proofs.unroll.call_lead.Goals as goal

pub get-requires : goal.get-requires
get-requires c = c.requires (sym c.is_call.ensures ∙ c.if-is_call.true)

pub returns-then-is_call : goal.returns-then-is_call
returns-then-is_call c =
    record {
      of_call = λ k. down_sub _ _ c.checked_sub.ensures ∙ c.get.ensures;
      of_other = λ k. absurd (true_not_false (sym (sym c.is_call.ensures ∙ c.if-is_call.true) ∙ k));
    }

pub returns : goal.returns
returns c = record { of_call = λ k. absurd (true_not_false (sym k ∙ sym c.is_call.ensures ∙ c.if-is_call.false)); of_other = λ k. refl }
