-- Path structures only comply with the oracles. Nothing else is entailed if queries and updates are true on no more paths than the oracles say. Assumes nothing.
use Prim.Native.Nat.{ℕ}
use mathlib.Core.Path.{◌≡◌, sym}
use mathlib.Core.Bool.{true, false}
use mathlib.Core.List.{[], ◌∷◌}
use mathlib.Core.Logic.{◌↔◌}
use Rattle.steps.specs.State.{State, holds, added, removed}
use Rattle.steps.specs.Step.{query, insert, delete, deny, Body, Book}
use Rattle.steps.specs.Deduction.{queries, inserts, deletes, denies, done, move}
use Rattle.entailment.specs.Path.{Path, ⟨◌⟩, ◌▷◌}
use Rattle.entailment.specs.Entailment.{Structure, Satisfies, Model, Entails}
use Rattle.entailment.specs.Execution.{execution, Along}
use Rattle.entailment.proofs.Completeness.{least, along, least_model}
use Rattle.entailment.proofs.Theorems.{executional}

-- Queries, inserts and deletes are true where the oracles say so, and nowhere else.
pub record Fixed (M : Structure) : Type 0 where
  pub query_fixed : (π : Path) (p : ℕ) → M.true_on π (query p) → (D : State) × (π ≡ ⟨ D ⟩) × (holds D p ≡ true)
  pub denial_fixed : (π : Path) (p : ℕ) → M.true_on π (deny p) → (D : State) × (π ≡ ⟨ D ⟩) × (holds D p ≡ false)
  pub insert_fixed : (π : Path) (p : ℕ) → M.true_on π (insert p) → (D : State) × (π ≡ D ▷ ⟨ added D p ⟩)
  pub delete_fixed : (π : Path) (p : ℕ) → M.true_on π (delete p) → (D : State) × (π ≡ D ▷ ⟨ removed D p ⟩)

module _ {book : Book} {π : Path} where
  query_along : {p : ℕ} → Along book π (query p ∷ []) → (D : State) × (π ≡ ⟨ D ⟩) × (holds D p ≡ true)
  unfolding execution
  query_along (D, D', move (queries h) done, e) = (D, sym e, h)
  query_along {p = p} (D, D', move (queries h) (move {T = T} x32 _), e) = elim x32 [ ]

  denial_along : {p : ℕ} → Along book π (deny p ∷ []) → (D : State) × (π ≡ ⟨ D ⟩) × (holds D p ≡ false)
  unfolding execution
  denial_along (D, D', move (denies h) done, e) = (D, sym e, h)
  denial_along {p = p} (D, D', move (denies h) (move {T = T} x32 _), e) = elim x32 [ ]

  insert_along : {p : ℕ} → Along book π (insert p ∷ []) → (D : State) × (π ≡ D ▷ ⟨ added D p ⟩)
  unfolding execution
  insert_along (D, D', move inserts done, e) = (D, sym e)
  insert_along {p = p} (D, D', move inserts (move {T = T} x32 _), e) = elim x32 [ ]

  delete_along : {p : ℕ} → Along book π (delete p ∷ []) → (D : State) × (π ≡ D ▷ ⟨ removed D p ⟩)
  unfolding execution
  delete_along (D, D', move deletes done, e) = (D, sym e)
  delete_along {p = p} (D, D', move deletes (move {T = T} x32 _), e) = elim x32 [ ]

least_fixed : (book : Book) → Fixed (least book)
unfolding least
least_fixed book = record { query_fixed = λ π p. query_along; denial_fixed = λ π p. denial_along; insert_fixed = λ π p. insert_along; delete_fixed = λ π p. delete_along }

pub fixed_entails : {book : Book} {π : Path} {body : Body} → ((M : Structure) → Fixed M → Model book M → Satisfies M π body) ↔ Entails book π body
fixed_entails {book} = (λ h. executional.0 (along book (h (least book) (least_fixed book) (least_model book))), λ h M fixed model. h M model)
