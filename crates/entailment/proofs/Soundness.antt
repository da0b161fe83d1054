-- Soundness: a deduced body is true on the deduction's path in every model, move by move. Assumes nothing.
use mathlib.Core.Path.{refl, sym, subst}
use mathlib.Core.List.{◌∷◌, Memᴰ}
use Rattle.steps.specs.State.{State}
use Rattle.steps.specs.Step.{call, Body, Rule, Book}
use Rattle.steps.specs.Deduction.{queries, inserts, deletes, calls, denies, done, move, Final}
use Rattle.entailment.specs.Path.{Path, last, ◌∘◌}
use Rattle.entailment.specs.Entailment.{Structure, Satisfies, empty, serial, Model, Entails}
use Rattle.entailment.specs.Execution.{execution}
use Rattle.entailment.proofs.ExecutionLaws.{execution_first}
use Rattle.entailment.proofs.Satisfaction.{Parts, serial_conjunction}

-- a call is true where the body of a rule for it is
called : {book : Book} {M : Structure} → Model book M → (r : Rule) → Memᴰ r book → {π : Path} {rest : Body} → Parts M π r.body rest
    → Satisfies M π (call r.head ∷ rest)
called model r m p = serial (model r m p.left p.on_left) p.on_right p.meet p.whole

pub sound : {book : Book} {D D' : State} {body : Body} (d : Final book D body D') → Entails book (execution d) body
unfolding execution last ◌∘◌
sound done M model = empty
sound (move (queries {D} {p} h) d) M model = serial (M.data_oracle D p h) (sound d M model) (sym (execution_first d)) refl
sound (move (inserts {D} {p}) d) M model = serial (M.insert_oracle D p) (sound d M model) (sym (execution_first d)) refl
sound (move (deletes {D} {p}) d) M model = serial (M.delete_oracle D p) (sound d M model) (sym (execution_first d)) refl
sound (move (calls {rest = rest} r m e) d) M model =
    subst (λ a. Satisfies M (execution d) (call a ∷ rest)) e (called model r m ((serial_conjunction r.body rest).0 (sound d M model)))
sound (move (denies {D} {p} h) d) M model = serial (M.denial_oracle D p h) (sound d M model) (sym (execution_first d)) refl
