-- The ends that the evaluator lists are the states that the goal may transform the start into, in models of classical truth too.
-- Assumes nothing.
use Prim.Native.Nat.{ℕ}
use mathlib.Core.Path.{◌≡◌, refl}
use mathlib.Core.Bool.{Bool, true, false}
use mathlib.Core.List.Memᴰ
use mathlib.Core.List.{List, [], ◌∷◌, Memᴰ}
use mathlib.Core.Logic.{◌↔◌, ⊎_elim}
use lib.ListN.{take}
use lib.Dec.{eqb}
use borrow.Author.Tests.{eqb-true, eqb-false}
use Rattle.steps.specs.State.{State}
use Rattle.steps.specs.Words.{body_of, book_of}
use Rattle.evaluator.specs.Evaluated.{Asked}
use Rattle.halves.specs.Cut.{Unrefused, Listed}
use Rattle.halves.proofs.Halves.{lists_ends}
use Rattle.entailment.specs.Path.{Path, first, last}
use Rattle.entailment.specs.Entailment.{Structure, Satisfies, Model, Transforms}
use Rattle.entailment.proofs.Classical.{Classical, classical_complete}
use Rattle.entailment.proofs.Theorems.{executional, ends_entailed}

-- Where `evaluate` refuses nothing, the places of the list that its result counts hold just the states that the goal may transform the start into.
pub evaluated_entailed : {q : Asked} (u : Unrefused q) (D : State) → Listed u D ↔ Transforms (book_of q.rules) q.start (body_of q.goal) D
evaluated_entailed u D = (λ m. ends_entailed.0 ((lists_ends u D).0 m), λ w. (lists_ends u D).1 (ends_entailed.1 w))

-- what is not false of membership is so
stable : (D : ℕ) (xs : List ℕ) → ¬ ¬ Memᴰ D xs → Memᴰ D xs
stable D [] n = absurd (n Memᴰ.not-nil)
stable D (x ∷ xs) n = by (stable D xs) (eqb D x) refl
  where
    by : (¬ ¬ Memᴰ D xs → Memᴰ D xs) → (b : Bool) → eqb D x ≡ b → Memᴰ D (x ∷ xs)
    by rest true e = Memᴰ.head (eqb-true D x e)
    by rest false e = Memᴰ.tail (rest (λ no. n (λ m. ⊎_elim (eqb-false D x e) no (Memᴰ.cases_cons m))))

-- A state to which a path leads from the start, on which every model of classical truth makes the goal true, is listed.
pub evaluated_classical : {q : Asked} (u : Unrefused q) (D : State) (π : Path) → first π ≡ q.start → last π ≡ D
    → ((M : Structure) → Classical M → Model (book_of q.rules) M → Satisfies M π (body_of q.goal)) → Listed u D
evaluated_classical u D π a b h =
    stable D (take u.told.ends u.after.ends) (λ no. classical_complete h (λ along. no ((evaluated_entailed u D).1 (π, a, b, executional.0 along))))
