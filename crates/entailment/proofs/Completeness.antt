-- Completeness: in the least model a step is true on just the paths along which a deduction carries it out. Assumes nothing.
use mathlib.Core.Path.{◌≡◌, refl, sym, ap, subst, ◌∙◌}
use mathlib.Core.List.{[], ◌∷◌, Memᴰ}
use Rattle.steps.specs.State.{State, added, removed}
use Rattle.steps.specs.Step.{Step, call, Body, Rule, Book}
use Rattle.steps.specs.Deduction.{queries, inserts, deletes, calls, denies, done, move, Final}
use Rattle.entailment.specs.Path.{Path, first, last, ◌∘◌}
use Rattle.entailment.specs.Entailment.{Structure, Satisfies, empty, serial, Model, Entails}
use Rattle.entailment.specs.Execution.{execution, Along}
use Rattle.entailment.proofs.ExecutionLaws.{execution_first, execution_last, joined, before}
use Rattle.entailment.proofs.Satisfaction.{atom}
use Rattle.entailment.proofs.Soundness.{sound}

module _ (book : Book) where
  unfoldable pub least : Structure
  unfolding execution
  least =
      record {
        true_on = λ π s. Along book π (s ∷ []);
        data_oracle = λ D p h. (D, D, move (queries h) done, refl);
        denial_oracle = λ D p h. (D, D, move (denies h) done, refl);
        insert_oracle = λ D p. (D, added D p, move inserts done, refl);
        delete_oracle = λ D p. (D, removed D p, move deletes done, refl);
      }

  -- a step along one path, then the rest along the next
  pub then : {π π₁ π₂ : Path} {s : Step} {rest : Body} → Along book π₁ (s ∷ []) → Along book π₂ rest → last π₁ ≡ first π₂ → π ≡ π₁ ∘ π₂ → Along book π (s ∷ rest)
  then {π₁ = π₁} {π₂} {rest = rest} (D, E, d, e) (E', F, d₂, e₂) m f =
      let meet : E' ≡ E = sym (execution_first d₂) ∙ ap first e₂ ∙ sym m ∙ ap last (sym e) ∙ execution_last d in
      let (q, g) = subst (λ (X : State). (q : Final book X rest F) × (execution q ≡ π₂)) meet (d₂, e₂) in
      let (p, h) = before rest d in
      let (j, i) = joined p q in
      (D, F, j, i ∙ ap (λ κ. κ ∘ execution q) (h ∙ e) ∙ ap (λ κ. π₁ ∘ κ) g ∙ sym f)

  -- What is true in the least structure, a deduction carries out.
  pub along : {π : Path} {xs : Body} → Satisfies least π xs → Along book π xs
  unfolding execution least
  along (empty {D}) = (D, D, done, refl)
  along (serial t h m e) = then t (along h) m e

  -- what the body of a rule does, a call of its head does
  pub along_call : {π : Path} (r : Rule) → Memᴰ r book → Along book π r.body → Along book π (call r.head ∷ [])
  unfolding execution
  along_call r m (D, D', d, e) = let (d', f) = before [] d in (D, D', move (calls r m refl) d', f ∙ e)

  pub least_model : Model book least
  unfolding least
  least_model r m π h = along_call r m (along h)

  -- It is least: what is true in it is true in every model.
  pub least_below : (M : Structure) → Model book M → (π : Path) (s : Step) → least.true_on π s → M.true_on π s
  unfolding least
  least_below M model π s (D, D', d, e) = atom.0 (subst (λ κ. Satisfies M κ (s ∷ [])) e (sound d M model))

pub complete : {book : Book} {π : Path} {body : Body} → Entails book π body → Along book π body
complete {book} h = along book (h (least book) (least_model book))
