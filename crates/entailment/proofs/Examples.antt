-- What is entailed and what is not, on paths that the sources show. States are numbers: fluent k is bit k. Assumes nothing.
use Prim.Native.Nat.{ℕ}
use mathlib.Core.Path.{refl, ap}
use mathlib.Core.Bool.{Bool, true, false}
use mathlib.Core.List.Memᴰ
use mathlib.Core.List.{[], ◌∷◌}
use Rattle.steps.specs.State.{State}
use Rattle.steps.specs.Step.{query, insert, delete, call}
use Rattle.steps.specs.Deduction.{queries, inserts, deletes, calls, done, move}
use Rattle.steps.proofs.EachBelow.{true_not_false}
use Rattle.entailment.specs.Path.{Path, ⟨◌⟩, ◌▷◌}
use Rattle.entailment.specs.Entailment.{Entails}
use Rattle.entailment.specs.Execution.{execution, Along}
use Rattle.entailment.proofs.Soundness.{sound}
use Rattle.entailment.proofs.Completeness.{complete}

-- Figure 3 of 000: φ₁ = nodeA.del ⊗ nodeB.ins ⊗ nodeC ⊗ nodeD.ins is true over the path {A, C}, {C}, {B, C}, {B, C, D}.
pub figure_3 : Entails [] (5 ▷ 4 ▷ 6 ▷ ⟨ 14 ⟩) (delete 0 ∷ insert 1 ∷ query 2 ∷ insert 3 ∷ [])
unfolding execution
figure_3 = sound (move (deletes {D = 5}) (move (inserts {D = 4}) (move (queries {D = 6} refl) (move (inserts {D = 6}) done))))

-- Drill D5 by request R-3: an insert of what holds is true on a path of two equal states,
pub nothing_new : Entails [] (1 ▷ ⟨ 1 ⟩) (insert 0 ∷ [])
unfolding execution
nothing_new = sound (move (inserts {D = 1}) done)

-- and on no path of one state: an update takes two.
pub two_states : (D : State) → Entails [] ⟨ D ⟩ (insert 0 ∷ []) → ⊥
unfolding execution
two_states D h = no (complete h)
  where
    two : Path → Bool
    two ⟨ E ⟩ = false
    two (E ▷ π) = true

    no : Along [] ⟨ D ⟩ (insert 0 ∷ []) → ⊥
    no (E, E', move inserts done, e) = true_not_false (ap two e)
    no (E, E', move inserts (move {T = T} x32 _), e) = elim x32 [ ]

-- A call without a rule is entailed on no path.
pub no_rule : (π : Path) (a : ℕ) → Entails [] π (call a ∷ []) → ⊥
no_rule π a h = no (complete h)
  where
    no : Along [] π (call a ∷ []) → ⊥
    no (D, D', move (calls r m e) d, f) = Memᴰ.not-nil m
