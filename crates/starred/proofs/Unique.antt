-- A test that computes: every complete deduction of a body from a state has these states. Assumes nothing.
use Prim.Native.Nat.{ℕ, zero, suc}
use mathlib.Core.Path.{◌≡◌, refl, sym, ap, ◌∙◌}
use mathlib.Core.Bool.{Bool, true, false, cond, not, ◌&&◌, ◌||◌}
use mathlib.Core.List.{List, [], ◌∷◌, ◌++◌}
use mathlib.Core.Logic.{⊎_elim}
use lib.Dec.{T, eqb, eqb→eq, eqb_refl, T_not}
use Rattle.steps.specs.State.{State, holds, added, removed}
use Rattle.steps.specs.Step.{query, insert, delete, call, deny, Body, Rule, Book}
use Rattle.steps.specs.Deduction.{queries, inserts, deletes, calls, denies, done, move, Final}
use Rattle.unfolding.specs.States.{move_states, states}
use Rattle.starred.proofs.ListTests.{both, either, every, every_at}

-- the list begins with this state, and what is behind it passes
unfoldable pub behind : State → (List State → Bool) → List State → Bool
behind D test [] = false
behind D test (x ∷ xs) = eqb x D && test xs

pub behind_is : (D : State) (test : List State → Bool) (xs : List State) → T (behind D test xs) → (ys : List State) × (xs ≡ D ∷ ys) × T (test ys)
unfolding behind
behind_is D test [] t = absurd t
behind_is D test (x ∷ xs) t = let (e, h) = both (eqb x D) (test xs) t in (xs, ap (λ (y : State). y ∷ xs) (eqb→eq x D e), h)

module _ (book : Book) where
  -- within so many moves: every complete deduction has these states after its first
  unfoldable pub only : ℕ → State → Body → List State → Bool
  unfolding behind
  only zero D body xs = false
  only (suc n) D [] [] = true
  only (suc n) D [] (x ∷ xs) = false
  only (suc n) D (query p ∷ rest) xs = cond (holds D p) (only n D rest xs) true
  only (suc n) D (insert p ∷ rest) xs = behind (added D p) (only n (added D p) rest) xs
  only (suc n) D (delete p ∷ rest) xs = behind (removed D p) (only n (removed D p) rest) xs
  only (suc n) D (call a ∷ rest) xs = every (λ (r : Rule). not (eqb r.head a) || only n D (r.body ++ rest) xs) book
  only (suc n) D (deny p ∷ rest) xs = cond (holds D p) true (only n D rest xs)

  pub only_states : (n : ℕ) {D D' : State} (body : Body) (xs : List State) → T (only n D body xs) → (d : Final book D body D') → states d ≡ xs
  unfolding only states move_states
  only_states zero body xs t d = absurd t
  only_states (suc n) [] [] t done = refl
  only_states (suc n) [] (x ∷ xs) t d = absurd t
  only_states (suc n) (query p ∷ rest) xs t (move (queries h) d) = only_states n rest xs (rw h at t) d
  only_states (suc n) {D} (insert p ∷ rest) xs t (move inserts d) =
      let (ys, e, h) = behind_is (added D p) (only n (added D p) rest) xs t in
      ap (λ (l : List State). added D p ∷ l) (only_states n rest ys h d) ∙ sym e
  only_states (suc n) {D} (delete p ∷ rest) xs t (move deletes d) =
      let (ys, e, h) = behind_is (removed D p) (only n (removed D p) rest) xs t in
      ap (λ (l : List State). removed D p ∷ l) (only_states n rest ys h d) ∙ sym e
  only_states (suc n) {D} (call a ∷ rest) xs t (move (calls r m e) d) =
      ⊎_elim (λ no. absurd (T_not (eqb r.head a) no (rw e (eqb_refl a)))) (λ h. only_states n (r.body ++ rest) xs h d)
      (either (not (eqb r.head a)) (only n D (r.body ++ rest) xs) (every_at (λ (r : Rule). not (eqb r.head a) || only n D (r.body ++ rest) xs) t m))
  only_states (suc n) (deny p ∷ rest) xs t (move (denies h) d) = only_states n rest xs (rw h at t) d
  only_states (suc n) {D = D} [] [] t (move x5 d) = elim x5 [ ]
