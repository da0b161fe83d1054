-- Deductions that carry out given steps, as executions over pairs of a state and the steps still to be carried out: the theorems of `Tables`
-- serve with these pairs for states. Assumes nothing.
use Prim.Native.Nat.{ℕ}
use mathlib.Core.Path.{◌≡◌, refl, sym, ap, subst, ◌∙◌}
use mathlib.Core.List.{List, [], ◌∷◌, ◌++◌, append_assoc, append-nil}
use mathlib.Core.Logic.{◌↔◌}
use Rattle.steps.specs.State.{State}
use Rattle.steps.specs.Step.{Step, call, Body, Book}
use Rattle.steps.specs.Deduction.{Sequent, ◌⊢◌, Move, queries, inserts, deletes, calls, denies, Deduction, done, move, Final}
use Rattle.steps.proofs.Deductions.{Does, asks, adds, drops, lacks, RuleOf, rule}
use Rattle.steps.proofs.Execution.{Runs, ended, does, uses, runs_split}
use Rattle.marking.specs.Marking.{move_step, steps_of, CarriesOut}

-- A state, and the steps still to be carried out.
abbrev pub Left : Type 0
Left = State × List Step

-- An elementary step that is the next of them and can run.
pub data Spends : Step → Left → Left → Type 0 where
  spends : {x : Step} {D D' : State} {rest : List Step} → Does x D D' → Spends x (D, x ∷ rest) (D', rest)

module _ {book : Book} where
  carried_move : {D D₁ D' : State} {xs ys : Body} (m : Move book (D ⊢ xs) (D₁ ⊢ ys)) (u v : List Step) → Runs Spends (RuleOf book) (D₁, u) ys (D', v) → Runs Spends (RuleOf book) (D, move_step m ++ u) xs (D', v)
  unfolding move_step
  carried_move (queries h) u v p = does (spends (asks h)) p
  carried_move inserts u v p = does (spends adds) p
  carried_move deletes u v p = does (spends drops) p
  carried_move (denies h) u v p = does (spends (lacks h)) p
  carried_move (calls r m e) u v p = let (n, a, b) = runs_split r.body p in uses (rule r m e) a b

  -- what a deduction carries out is spent
  pub carried : {D D' : State} {xs : Body} (d : Final book D xs D') (v : List Step) → Runs Spends (RuleOf book) (D, steps_of d ++ v) xs (D', v)
  unfolding steps_of
  carried done v = ended
  carried {D} {D'} {xs} (move {T = E ⊢ ys} m d) v =
      subst (λ (u : List Step). Runs Spends (RuleOf book) (D, u) xs (D', v)) (sym (append_assoc (move_step m) (steps_of d) v)) (carried_move m (steps_of d ++ v) v (carried d v))

  -- one deduction after another, and before further steps
  joined : {S T U : Sequent} (p : Deduction book S T) (q : Deduction book T U) → (d : Deduction book S U) × (steps_of d ≡ steps_of p ++ steps_of q)
  unfolding steps_of
  joined done q = (q, refl)
  joined (move m p) q = let (d, e) = joined p q in (move m d, ap (λ (l : List Step). move_step m ++ l) e ∙ sym (append_assoc (move_step m) (steps_of p) (steps_of q)))

  before : {D D' : State} {xs ys : Body} (zs : Body) (d : Deduction book (D ⊢ xs) (D' ⊢ ys)) → (d' : Deduction book (D ⊢ xs ++ zs) (D' ⊢ ys ++ zs)) × (steps_of d' ≡ steps_of d)
  unfolding steps_of move_step
  before zs done = (done, refl)
  before zs (move (queries h) d) = let (d', e) = before zs d in (move (queries h) d', rw e refl)
  before zs (move inserts d) = let (d', e) = before zs d in (move inserts d', rw e refl)
  before zs (move deletes d) = let (d', e) = before zs d in (move deletes d', rw e refl)
  before zs (move (denies h) d) = let (d', e) = before zs d in (move (denies h) d', rw e refl)
  before {D} {D'} {ys = ys} zs (move (calls {rest = rest} r m e) d) =
      let (d', f) = subst (λ (us : Body). (d' : Deduction book (D ⊢ us) (D' ⊢ ys ++ zs)) × (steps_of d' ≡ steps_of d)) (append_assoc r.body rest zs) (before zs d) in
      (move (calls r m e) d', f)

  -- a step in front of a deduction
  first : {x : Step} {D E D' : State} {rest : Body} → Does x D E → (d : Final book E rest D') → (d' : Final book D (x ∷ rest) D') × (steps_of d' ≡ x ∷ steps_of d)
  unfolding steps_of move_step
  first (asks h) d = (move (queries h) d, refl)
  first adds d = (move inserts d, refl)
  first drops d = (move deletes d, refl)
  first (lacks h) d = (move (denies h) d, refl)

  -- a call in front of a deduction
  called : {a : ℕ} {D E D' : State} {body rest : Body} → RuleOf book a body → (i : Final book D body E) (d : Final book E rest D') → (d' : Final book D (call a ∷ rest) D') × (steps_of d' ≡ steps_of i ++ steps_of d)
  unfolding steps_of move_step
  called {rest = rest} (rule r m e) i d =
      let (i', f) = before rest i in
      let (d', g) = joined i' d in
      (move (calls r m e) d', g ∙ ap (λ (l : List Step). l ++ steps_of d) f)

  -- what is spent a deduction carries out
  pub spent : {s t : Left} {xs : Body} → Runs Spends (RuleOf book) s xs t → (d : Final book s.0 xs t.0) × (s.1 ≡ steps_of d ++ t.1)
  unfolding steps_of
  spent ended = (done, refl)
  spent {t = t} (does (spends {x = x} h) p) =
      let (d, e) = spent p in
      let (d', f) = first h d in
      (d', ap (λ (l : List Step). x ∷ l) e ∙ ap (λ (l : List Step). l ++ t.1) (sym f))
  spent {t = t} (uses h i p) =
      let (d, e) = spent p in
      let (j, f) = spent i in
      let (d', g) = called h j d in
      (d', f ∙ ap (λ (l : List Step). steps_of j ++ l) e ∙ sym (append_assoc (steps_of j) (steps_of d) t.1) ∙ ap (λ (l : List Step). l ++ t.1) (sym g))

-- Carrying out the steps is spending them all.
pub carries_spends : {book : Book} {D : State} {body : Body} (steps : List Step) → CarriesOut book D body steps ↔ ((D' : State) × Runs Spends (RuleOf book) (D, steps) body (D', []))
carries_spends {book} {D} {body} steps = (
  λ (D', d, e). (D', subst (λ (u : List Step). Runs Spends (RuleOf book) (D, u) body (D', [])) (append-nil (steps_of d) ∙ e) (carried d [])),
  λ (D', p). (let (d, e) = spent p in (D', d, sym (e ∙ append-nil (steps_of d)))),
)
