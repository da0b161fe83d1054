-- Deductions and executions say the same; deductions of a body in two parts. Assumes nothing.
use Prim.Native.Nat.{ℕ}
use mathlib.Core.Path.{◌≡◌, refl}
use mathlib.Core.Bool.{true, false}
use mathlib.Core.List.{◌∷◌, ◌++◌, Memᴰ, append_assoc}
use mathlib.Core.Logic.{◌⊎◌, ◌↔◌, ⊎_map, ⊎_elim}
use Rattle.steps.specs.State.{State, holds, added, removed}
use Rattle.steps.specs.Step.{Step, query, insert, delete, call, deny, Body, Rule, Book}
use Rattle.steps.specs.Deduction.{Sequent, ◌⊢◌, Move, queries, inserts, deletes, calls, denies, Deduction, done, move, Final, ComesToCall}
use Rattle.steps.proofs.Execution.{Runs, ended, does, uses, Comes, here, past, inside, after, runs_join, runs_split, comes_left, comes_right, comes_split}

-- An elementary step takes a state to the next one.
pub data Does : Step → State → State → Type 0 where
  asks : {p : ℕ} {D : State} → holds D p ≡ true → Does (query p) D D
  adds : {p : ℕ} {D : State} → Does (insert p) D (added D p)
  drops : {p : ℕ} {D : State} → Does (delete p) D (removed D p)
  lacks : {p : ℕ} {D : State} → holds D p ≡ false → Does (deny p) D D

-- The bodies that the rules of a book give an action.
pub data RuleOf (book : Book) (a : ℕ) : Body → Type 0 where
  rule : (r : Rule) → Memᴰ r book → r.head ≡ a → RuleOf book a r.body

module _ {book : Book} where
  runs_move : {D D₁ D' : State} {xs ys : Body} → Move book (D ⊢ xs) (D₁ ⊢ ys) → Runs Does (RuleOf book) D₁ ys D' → Runs Does (RuleOf book) D xs D'
  runs_move (queries h) p = does (asks h) p
  runs_move inserts p = does adds p
  runs_move deletes p = does drops p
  runs_move (denies h) p = does (lacks h) p
  runs_move (calls r m e) p = let (n, a, b) = runs_split r.body p in uses (rule r m e) a b

  pub to_runs : {D D' : State} {xs : Body} → Final book D xs D' → Runs Does (RuleOf book) D xs D'
  to_runs done = ended
  to_runs (move {T = E ⊢ ys} m d) = runs_move m (to_runs d)

  comes_move : {b : ℕ} {D D₁ E : State} {xs ys : Body} → Move book (D ⊢ xs) (D₁ ⊢ ys) → Comes Does (RuleOf book) b E D₁ ys → Comes Does (RuleOf book) b E D xs
  comes_move (queries h) p = past (asks h) p
  comes_move inserts p = past adds p
  comes_move deletes p = past drops p
  comes_move (denies h) p = past (lacks h) p
  comes_move (calls r m e) p = ⊎_elim (inside (rule r m e)) (λ (n, a, c). after (rule r m e) a c) (comes_split r.body p)

  pub to_comes : {b : ℕ} {D E : State} {xs rest : Body} → Deduction book (D ⊢ xs) (E ⊢ call b ∷ rest) → Comes Does (RuleOf book) b E D xs
  to_comes done = here refl refl
  to_comes (move {T = F ⊢ ys} m d) = comes_move m (to_comes d)

  -- a deduction goes on before any further steps
  move_before : {D D' : State} {xs ys : Body} (zs : Body) → Move book (D ⊢ xs) (D' ⊢ ys) → Move book (D ⊢ xs ++ zs) (D' ⊢ ys ++ zs)
  move_before zs (queries h) = queries h
  move_before zs inserts = inserts
  move_before zs deletes = deletes
  move_before zs (denies h) = denies h
  move_before zs (calls r m e) = rw append_assoc (calls r m e)

  deduce_before : {D D' : State} {xs ys : Body} (zs : Body) → Deduction book (D ⊢ xs) (D' ⊢ ys) → Deduction book (D ⊢ xs ++ zs) (D' ⊢ ys ++ zs)
  deduce_before zs done = done
  deduce_before zs (move {T = F ⊢ us} m d) = move (move_before zs m) (deduce_before zs d)

  pub deduce_join : {S T U : Sequent} → Deduction book S T → Deduction book T U → Deduction book S U
  deduce_join done q = q
  deduce_join (move m p) q = move m (deduce_join p q)

  pub does_move : {s : Step} {D D₁ : State} {rest : Body} → Does s D D₁ → Move book (D ⊢ s ∷ rest) (D₁ ⊢ rest)
  does_move (asks h) = queries h
  does_move adds = inserts
  does_move drops = deletes
  does_move (lacks h) = denies h

  pub move_does : {s : Step} {D D₁ : State} {rest ys : Body} → ((a : ℕ) → s ≡ call a → ⊥) → Move book (D ⊢ s ∷ rest) (D₁ ⊢ ys) → Does s D D₁
  move_does no_call (queries h) = asks h
  move_does no_call inserts = adds
  move_does no_call deletes = drops
  move_does no_call (denies h) = lacks h
  move_does no_call (calls {a = a} r m e) = absurd (no_call a refl)

  -- a deduction of a rule's body, then of the rest, is one of the call and the rest
  through_call : {a : ℕ} {D D₁ : State} {body rest : Body} {S : Sequent} → RuleOf book a body → Final book D body D₁ → Deduction book (D₁ ⊢ rest) S
      → Deduction book (D ⊢ call a ∷ rest) S
  through_call {rest = rest} (rule r m e) i d = move (calls r m e) (deduce_join (deduce_before rest i) d)

  pub of_runs : {D D' : State} {xs : Body} → Runs Does (RuleOf book) D xs D' → Final book D xs D'
  of_runs ended = done
  of_runs (does h p) = move (does_move h) (of_runs p)
  of_runs (uses h i p) = through_call h (of_runs i) (of_runs p)

  into_call : {a b : ℕ} {D E : State} {body : Body} (rest : Body) → RuleOf book a body → ComesToCall book D body b E → ComesToCall book D (call a ∷ rest) b E
  into_call rest (rule r m e) (more, d) = (more ++ rest, move (calls r m e) (deduce_before rest d))

  pub of_comes : {b : ℕ} {E D : State} {xs : Body} → Comes Does (RuleOf book) b E D xs → ComesToCall book D xs b E
  of_comes (here {rest = rest} e f) = (rest, rw (e, f) done)
  of_comes (past h p) = let (rest, d) = of_comes p in (rest, move (does_move h) d)
  of_comes (inside {rest = rest} h p) = into_call rest h (of_comes p)
  of_comes (after h i p) = let (more, d) = of_comes p in (more, through_call h (of_runs i) d)

-- The final states of a body in two parts.
pub final_append : {book : Book} {D D' : State} (xs ys : Body) → Final book D (xs ++ ys) D' ↔ ((D₁ : State) × Final book D xs D₁ × Final book D₁ ys D')
final_append xs ys = (λ d. let (m, a, b) = runs_split xs (to_runs d) in (m, of_runs a, of_runs b), λ (m, a, b). of_runs (runs_join (to_runs a) (to_runs b)))

-- The calls that a body in two parts comes to.
pub calls_append : {book : Book} {b : ℕ} {D E : State} (xs ys : Body)
    → ComesToCall book D (xs ++ ys) b E ↔ (ComesToCall book D xs b E ⊎ ((D₁ : State) × Final book D xs D₁ × ComesToCall book D₁ ys b E))
calls_append xs ys = (
  λ (r, d). ⊎_map of_comes (λ (m, a, c). (m, of_runs a, of_comes c)) (comes_split xs (to_comes d)),
  ⊎_elim (λ (r, d). of_comes (comes_left ys (to_comes d))) (λ (m, a, (r, d)). of_comes (comes_right (to_runs a) (to_comes d))),
)
