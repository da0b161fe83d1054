-- Tables of calls and answers, over any elementary step, any bodies of actions and any set of root calls:
-- tables that are closed and sound hold exactly what the roots' executions call and answer. Assumes nothing.
use Prim.Native.Nat.{ℕ, zero, suc, ◌<◌}
use native.Mathlib.Omega.{arith}
use mathlib.Core.Path.{refl}
use mathlib.Core.List.{[], ◌∷◌}
use mathlib.Core.Logic.{◌⊎◌, inl, inr, ◌↔◌}
use Rattle.steps.specs.Step.{Step, call, Body}
use Rattle.steps.proofs.Execution.{Runs, ended, does, uses, Comes, here, past, inside, after, Ends, comes_through, runs_map, comes_map}

-- Walking a body: elementary steps are done, and a call takes an answer of the table A. What is left may be anything.
pub data Walk {X : Type 0} (Does : Step → X → X → Type 0) (A : ℕ → X → X → Type 0) : X → Body → X → Body → Type 0 where
  stands : {D : X} {xs : Body} → Walk Does A D xs D xs
  walks : {D D₁ D' : X} {s : Step} {rest left : Body} → Does s D D₁ → Walk Does A D₁ rest D' left → Walk Does A D (s ∷ rest) D' left
  takes : {D D₁ D' : X} {b : ℕ} {rest left : Body} → A b D D₁ → Walk Does A D₁ rest D' left → Walk Does A D (call b ∷ rest) D' left

pub walk_map : {X : Type 0} {Does : Step → X → X → Type 0} {A B : ℕ → X → X → Type 0} → ((b : ℕ) (E E' : X) → A b E E' → B b E E')
    → {D D' : X} {xs left : Body} → Walk Does A D xs D' left → Walk Does B D xs D' left
walk_map f stands = stands
walk_map f (walks h w) = walks h (walk_map f w)
walk_map f (takes {D} {D₁} {b = b} x w) = takes (f b D D₁ x) (walk_map f w)

module _ {X : Type 0} (Does : Step → X → X → Type 0) (Has : ℕ → Body → Type 0) (Root : ℕ → X → Type 0) where
  -- The calls: the roots, and what an execution of a root's body comes to call.
  abbrev pub Reached : ℕ → X → Type 0
  Reached b E = Root b E ⊎ ((a : ℕ) × (D : X) × (body : Body) × Root a D × Has a body × Comes Does Has b E D body)

  -- Nothing is left to add to the calls C and the answers A.
  pub record Closed (C : ℕ → X → Type 0) (A : ℕ → X → X → Type 0) : Type 0 where
    pub roots : (a : ℕ) (D : X) → Root a D → C a D
    pub reaches : (a b : ℕ) (D E : X) (body rest : Body) → C a D → Has a body → Walk Does A D body E (call b ∷ rest) → C b E
    pub ends : (a : ℕ) (D D' : X) (body : Body) → C a D → Has a body → Walk Does A D body D' [] → A a D D'

  -- Nothing wrong is in them.
  pub record Sound (C : ℕ → X → Type 0) (A : ℕ → X → X → Type 0) : Type 0 where
    pub calls : (a : ℕ) (D : X) → C a D → Reached a D
    pub answers : (a : ℕ) (D D' : X) → A a D D' → Reached a D × Ends Does Has a D D'

  pub record Exact (C : ℕ → X → Type 0) (A : ℕ → X → X → Type 0) : Type 0 where
    pub calls : (a : ℕ) (D : X) → C a D ↔ Reached a D
    pub answers : (a : ℕ) (D D' : X) → A a D D' ↔ (Reached a D × Ends Does Has a D D')

  module _ {C : ℕ → X → Type 0} {A : ℕ → X → X → Type 0} (closed : Closed C A) where
    -- every call that a walk of the body comes to is in the table
    abbrev Covered : X → Body → Type 0
    Covered D body = (b : ℕ) (E : X) (rest : Body) → Walk Does A D body E (call b ∷ rest) → C b E

    covered : {a : ℕ} {D : X} {body : Body} → C a D → Has a body → Covered D body
    covered {a} {D} {body} c h b E rest w = closed.reaches a b D E body rest c h w

    walk_of : {D D' : X} {body : Body} → Runs Does Has D body D' → Covered D body → Walk Does A D body D' []
    walk_of ended cov = stands
    walk_of (does h p) cov = walks h (walk_of p λ b E rest w. cov b E rest (walks h w))
    walk_of (uses {D} {D₁} {a = a} {body = body} {rest = rest} h i p) cov =
        let known : C a D = cov a D rest stands in
        let found : A a D D₁ = closed.ends a D D₁ body known h (walk_of i (covered known h)) in
        takes found (walk_of p λ b E left w. cov b E left (takes found w))

    answer_held : {a : ℕ} {D D' : X} {body : Body} → C a D → Has a body → Runs Does Has D body D' → A a D D'
    answer_held {a} {D} {D'} {body} c h p = closed.ends a D D' body c h (walk_of p (covered c h))

    call_of : {b : ℕ} {E D : X} {body : Body} → Comes Does Has b E D body → Covered D body → C b E
    call_of (here {D} {a} {rest} e f) cov = rw (e, f) (cov a D rest stands)
    call_of (past h p) cov = call_of p λ b E rest w. cov b E rest (walks h w)
    call_of (inside {D} {a} {rest = rest} h p) cov = call_of p (covered (cov a D rest stands) h)
    call_of (after {D} {a = a} {rest = rest} h i p) cov =
        call_of p λ b E left w. cov b E left (takes (answer_held (cov a D rest stands) h i) w)

    call_held : {a : ℕ} {D : X} → Reached a D → C a D
    call_held {a} {D} (inl r) = closed.roots a D r
    call_held (inr (a, D, body, r, h, p)) = call_of p (covered (closed.roots a D r) h)

  pub exact : {C : ℕ → X → Type 0} {A : ℕ → X → X → Type 0} → Closed C A → Sound C A → Exact C A
  exact closed sound = record {
    calls = λ a D. (sound.calls a D, call_held closed);
    answers = λ a D D'. (sound.answers a D D', λ (r, (body, h, p)). answer_held closed (call_held closed r) h p);
  }

  -- A table whose answers are final states of their actions: what a walk through it shows.
  module _ {A : ℕ → X → X → Type 0} (true_answers : (b : ℕ) (E E' : X) → A b E E' → Ends Does Has b E E') where
    pub walk_runs : {D D' : X} {body : Body} → Walk Does A D body D' [] → Runs Does Has D body D'
    walk_runs stands = ended
    walk_runs (walks h w) = does h (walk_runs w)
    walk_runs (takes {D} {D₁} {b = b} x w) = let (body, h, i) = true_answers b D D₁ x in uses h i (walk_runs w)

    walk_comes : {b : ℕ} {D E : X} {body rest : Body} → Walk Does A D body E (call b ∷ rest) → Comes Does Has b E D body
    walk_comes stands = here refl refl
    walk_comes (walks h w) = past h (walk_comes w)
    walk_comes (takes {D} {D₁} {b = c} x w) = let (body, h, i) = true_answers c D D₁ x in after h i (walk_comes w)

    -- the call before which a walk of a call's body stands is one of the calls
    pub walk_reached : {a b : ℕ} {D E : X} {body rest : Body} → Reached a D → Has a body → Walk Does A D body E (call b ∷ rest) → Reached b E
    walk_reached {a} {D = D} {body = body} (inl r) h w = inr (a, D, body, r, h, walk_comes w)
    walk_reached (inr (c, C, xs, r, g, p)) h w = inr (c, C, xs, r, g, comes_through p h (walk_comes w))

  -- Records that are justified by records of smaller number hold final states.
  module _ (R : ℕ → ℕ → X → X → Type 0)
      (justified : (n a : ℕ) (D D' : X) → R n a D D' → (body : Body) × Has a body × Walk Does (λ b E E'. (m : ℕ) × (m < n) × R m b E E') D body D' []) where
    below : (k n a : ℕ) (D D' : X) → n < k → R n a D D' → Ends Does Has a D D'
    below zero n a D D' l h = absurd (omega arith)
    below (suc k) n a D D' l h =
        let (body, o, w) = justified n a D D' h in
        (body, o, walk_runs (λ b E E' (m, l', h'). below k m b E E' (omega arith) h') w)

    pub justified_ends : (n a : ℕ) (D D' : X) → R n a D D' → Ends Does Has a D D'
    justified_ends n a D D' h = below (suc n) n a D D' (omega arith) h

-- the same where actions have these bodies and more, from these roots and more
module _ {X : Type 0} {Does : Step → X → X → Type 0} {Has Has' : ℕ → Body → Type 0} (also : (a : ℕ) (body : Body) → Has a body → Has' a body) where
  pub ends_map : {a : ℕ} {D D' : X} → Ends Does Has a D D' → Ends Does Has' a D D'
  ends_map {a} (body, h, p) = (body, also a body h, runs_map also p)

  pub reached_map : {Root Root' : ℕ → X → Type 0} → ((a : ℕ) (D : X) → Root a D → Root' a D) → {b : ℕ} {E : X} → Reached Does Has Root b E → Reached Does Has' Root' b E
  reached_map up {b} {E} (inl r) = inl (up b E r)
  reached_map up (inr (a, D, body, r, h, p)) = inr (a, D, body, up a D r, also a body h, comes_map also p)
