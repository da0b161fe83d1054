-- Executions of bodies in big steps, over any elementary step and any bodies of actions, and their laws for a body in two parts.
-- Only proofs cite this file: `Deductions` shows that it says the same as the moves. Assumes nothing.
use Prim.Native.Nat.{ℕ}
use mathlib.Core.Path.{◌≡◌, subst}
use mathlib.Core.List.{[], ◌∷◌, ◌++◌}
use mathlib.Core.Logic.{◌⊎◌, inl, inr, ⊎_map}
use Rattle.steps.specs.Step.{Step, call, Body}

module _ {X : Type 0} (Does : Step → X → X → Type 0) (Has : ℕ → Body → Type 0) where
  -- The body takes D to D': an elementary step by `Does`, a call by an execution of a body that its action has.
  pub data Runs : X → Body → X → Type 0 where
    ended : {D : X} → Runs D [] D
    does : {D D₁ D' : X} {s : Step} {rest : Body} → Does s D D₁ → Runs D₁ rest D' → Runs D (s ∷ rest) D'
    uses : {D D₁ D' : X} {a : ℕ} {body rest : Body} → Has a body → Runs D body D₁ → Runs D₁ rest D' → Runs D (call a ∷ rest) D'

  -- An execution of the body from D comes to call b at E: here, past a step, inside a call or after it.
  pub data Comes (b : ℕ) (E : X) : X → Body → Type 0 where
    here : {D : X} {a : ℕ} {rest : Body} → b ≡ a → E ≡ D → Comes b E D (call a ∷ rest)
    past : {D D₁ : X} {s : Step} {rest : Body} → Does s D D₁ → Comes b E D₁ rest → Comes b E D (s ∷ rest)
    inside : {D : X} {a : ℕ} {body rest : Body} → Has a body → Comes b E D body → Comes b E D (call a ∷ rest)
    after : {D D₁ : X} {a : ℕ} {body rest : Body} → Has a body → Runs D body D₁ → Comes b E D₁ rest → Comes b E D (call a ∷ rest)

  -- The final states of an action: those of its bodies.
  abbrev pub Ends : ℕ → X → X → Type 0
  Ends a D D' = (body : Body) × Has a body × Runs D body D'

module _ {X : Type 0} {Does : Step → X → X → Type 0} {Has : ℕ → Body → Type 0} where
  pub runs_join : {D D₁ D' : X} {xs ys : Body} → Runs Does Has D xs D₁ → Runs Does Has D₁ ys D' → Runs Does Has D (xs ++ ys) D'
  runs_join ended q = q
  runs_join (does h p) q = does h (runs_join p q)
  runs_join (uses h i p) q = uses h i (runs_join p q)

  pub runs_split : {D D' : X} (xs : Body) {ys : Body} → Runs Does Has D (xs ++ ys) D' → (D₁ : X) × Runs Does Has D xs D₁ × Runs Does Has D₁ ys D'
  runs_split {D} [] p = (D, ended, p)
  runs_split {D = D} (x ∷ xs) (does {D₁ = D₁} h p) = let (m, a, b) = runs_split {D = D₁} xs p in (m, does h a, b)
  runs_split {D = D} (x ∷ xs) (uses {D₁ = D₁} h i p) = let (m, a, b) = runs_split {D = D₁} xs p in (m, uses h i a, b)

  pub comes_left : {b : ℕ} {E D : X} {xs : Body} (ys : Body) → Comes Does Has b E D xs → Comes Does Has b E D (xs ++ ys)
  comes_left ys (here e f) = here e f
  comes_left ys (past h p) = past h (comes_left ys p)
  comes_left ys (inside h p) = inside h p
  comes_left ys (after h i p) = after h i (comes_left ys p)

  pub comes_right : {b : ℕ} {D D₁ E : X} {xs ys : Body} → Runs Does Has D xs D₁ → Comes Does Has b E D₁ ys → Comes Does Has b E D (xs ++ ys)
  comes_right ended q = q
  comes_right (does h p) q = past h (comes_right p q)
  comes_right (uses h i p) q = after h i (comes_right p q)

  pub comes_split : {b : ℕ} {D E : X} (xs : Body) {ys : Body} → Comes Does Has b E D (xs ++ ys)
      → Comes Does Has b E D xs ⊎ ((D₁ : X) × Runs Does Has D xs D₁ × Comes Does Has b E D₁ ys)
  comes_split {D = D} [] p = inr (D, ended, p)
  comes_split (x ∷ xs) (here e f) = inl (here e f)
  comes_split {D = D} (x ∷ xs) (past {D₁ = D₁} h p) = ⊎_map (past h) (λ (m, a, c). (m, does h a, c)) (comes_split {D = D₁} xs p)
  comes_split (x ∷ xs) (inside h p) = inl (inside h p)
  comes_split {D = D} (x ∷ xs) (after {D₁ = D₁} h i p) = ⊎_map (after h i) (λ (m, a, c). (m, uses h i a, c)) (comes_split {D = D₁} xs p)

  -- what the body of a call comes to, the caller comes to
  pub comes_through : {a b : ℕ} {D E C : X} {xs body : Body} → Comes Does Has a D C xs → Has a body → Comes Does Has b E D body → Comes Does Has b E C xs
  comes_through {b = b} {E = E} {body = body} (here {a = c} e f) h q =
      inside (subst (λ (a : ℕ). Has a body) e h) (subst (λ (D : X). Comes Does Has b E D body) f q)
  comes_through (past d p) h q = past d (comes_through p h q)
  comes_through (inside g p) h q = inside g (comes_through p h q)
  comes_through (after g i p) h q = after g i (comes_through p h q)

  -- the same executions where actions have these bodies and more
  module _ {Has' : ℕ → Body → Type 0} (also : (a : ℕ) (body : Body) → Has a body → Has' a body) where
    pub runs_map : {D D' : X} {xs : Body} → Runs Does Has D xs D' → Runs Does Has' D xs D'
    runs_map ended = ended
    runs_map (does h p) = does h (runs_map p)
    runs_map (uses {a = a} {body = body} h i p) = uses (also a body h) (runs_map i) (runs_map p)

    pub comes_map : {b : ℕ} {E D : X} {xs : Body} → Comes Does Has b E D xs → Comes Does Has' b E D xs
    comes_map (here e f) = here e f
    comes_map (past h p) = past h (comes_map p)
    comes_map (inside {a = a} {body = body} h p) = inside (also a body h) (comes_map p)
    comes_map (after {a = a} {body = body} h i p) = after (also a body h) (runs_map i) (comes_map p)
