-- The inference system of figure 4 is sound and complete for the model theory, and what that says of a run's ends and answers. Assumes nothing.
use Prim.Native.Nat.{ℕ}
use mathlib.Core.Path.{◌≡◌, refl, sym, ap, subst, ◌∙◌}
use mathlib.Core.Logic.{◌↔◌}
use Rattle.steps.specs.State.{State}
use Rattle.steps.specs.Step.{Body, Book}
use Rattle.steps.specs.Deduction.{Final}
use Rattle.steps.specs.Run.{Run, Call, body_of_call, Answer, End}
use Rattle.entailment.specs.Path.{Path, first, last}
use Rattle.entailment.specs.Entailment.{Satisfies, Entails, Transforms, Succeeds}
use Rattle.entailment.specs.Execution.{execution, Along}
use Rattle.entailment.proofs.ExecutionLaws.{execution_first, execution_last}
use Rattle.entailment.proofs.Soundness.{sound}
use Rattle.entailment.proofs.Completeness.{complete}

module _ {book : Book} {body : Body} where
  -- 001, theorem 4.6: "There is an executional deduction of φ whose execution path is D₀ D₁ … Dₙ if and only if the following entailment is true: P, D₀ D₁ … Dₙ ⊨ φ."
  pub executional : {π : Path} → Along book π body ↔ Entails book π body
  executional = (λ (D, D', d, e) M model. subst (λ π. Satisfies M π body) e (sound d M model), complete)

  -- The final states of a body are the states that it may transform the state into.
  pub final_entailed : {D D' : State} → Final book D body D' ↔ Transforms book D body D'
  final_entailed {D} {D'} = (λ d. (execution d, execution_first d, execution_last d, sound d), λ (π, a, b, h). from π a b (complete h))
    where
      from : (π : Path) → first π ≡ D → last π ≡ D' → Along book π body → Final book D body D'
      from π a b (E, E', d, e) =
          subst (λ X. Final book X body D') (sym (execution_first d) ∙ ap first e ∙ a) (subst (λ X. Final book E body X) (sym (execution_last d) ∙ ap last e ∙ b) d)

  -- Figure 4, "soundness" and "completeness", and 001, theorem 4.5: P, D --- ⊢ φ if and only if P, D --- ⊨ φ.
  pub succeeds : {D : State} → ((D' : State) × Final book D body D') ↔ Succeeds book D body
  succeeds {D} = (λ (D', d). (execution d, execution_first d, sound d), λ (π, a, h). (last π, final_entailed.1 (π, a, refl, h)))

-- The ends of a run are the states that its goal may transform the start into,
pub ends_entailed : {run : Run} {D' : State} → End run D' ↔ Transforms run.book run.start run.goal D'
ends_entailed = final_entailed

-- and its answers are each call with each state that it may transform its state into.
pub answers_entailed : {run : Run} {a : ℕ} {D D' : State} → Answer run (a, D, D') ↔ (Call run (a, D) × Transforms run.book D (body_of_call run a) D')
answers_entailed = (λ (c, d). (c, final_entailed.0 d), λ (c, t). (c, final_entailed.1 t))
