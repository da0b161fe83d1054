-- The roots of the goals that stand are the goals kept, at their starts. Assumes nothing.
use Prim.Native.Nat.{ℕ}
use mathlib.Core.Path.{◌≡◌, refl, sym, ap}
use mathlib.Core.Bool.{Bool, true, false}
use mathlib.Core.List.Memᴰ
use mathlib.Core.List.{List, [], ◌∷◌, Memᴰ}
use mathlib.Core.Logic.{◌⊎◌, inl, inr, ⊎_elim}
use Rattle.steps.specs.State.{State}
use Rattle.steps.specs.Run.{Goal}
use Rattle.steps.proofs.EachBelow.{true_not_false}
use Rattle.steps.proofs.AcceptanceLaws.{AcceptedWords}
use Rattle.records.specs.Bodies.{second_goal}
use Rattle.tabling.proofs.Evidence.{Among}
use Rattle.joint.specs.Joint.{roots_of}
use Rattle.sharing.specs.Parties.{Party, first, second, goal_number, Ledger, account_of}
use Rattle.sharing.proofs.TwoGoals.{KeptRoot}

-- A root of the goals that stand is one of them at its start.
abbrev Root : Bool → Bool → State → State → ℕ → State → Type 0
Root f s x y a D = ((f ≡ true) × (a ≡ Goal) × (D ≡ x)) ⊎ ((s ≡ true) × (a ≡ second_goal) × (D ≡ y))

same : {a b : ℕ} {D E : State} → ◌≡◌ {A = ℕ × State} (a, D) (b, E) → (a ≡ b) × (D ≡ E)
same e = (ap (λ (c : ℕ × State). c.0) e, ap (λ (c : ℕ × State). c.1) e)

roots_in : (f s : Bool) (x y : State) (a : ℕ) (D : State) → Among (roots_of f s x y) a D → Root f s x y a D
roots_in true true x y a D (Memᴰ.head e) = let (b, d) = same e in inl (refl, b, d)
roots_in true true x y a D (Memᴰ.tail m) = let (b, d) = same (Memᴰ.eq_of_singleton m) in inr (refl, b, d)
roots_in true false x y a D m = let (e, d) = same (Memᴰ.eq_of_singleton m) in inl (refl, e, d)
roots_in false true x y a D m = let (e, d) = same (Memᴰ.eq_of_singleton m) in inr (refl, e, d)
roots_in false false x y a D m = absurd (Memᴰ.not-nil m)

in_roots : (f s : Bool) (x y : State) (a : ℕ) (D : State) → Root f s x y a D → Among (roots_of f s x y) a D
in_roots true s x y a D (inl (h, e, d)) = Memᴰ.head (λ k. (e k, d k))
in_roots false s x y a D (inl (h, e, d)) = absurd (true_not_false (sym h))
in_roots f false x y a D (inr (h, e, d)) = absurd (true_not_false (sym h))
in_roots true true x y a D (inr (h, e, d)) = Memᴰ.tail (Memᴰ.head (λ k. (e k, d k)))
in_roots false true x y a D (inr (h, e, d)) = Memᴰ.head (λ k. (e k, d k))

module _ {fluents actions : ℕ} (rules : List ℕ) (l : Ledger) (acc : (p : Party) → AcceptedWords fluents actions rules (account_of l p).goal) where
  abbrev pub KeptRoots : ℕ → State → Type 0
  KeptRoots = Among (roots_of l.first.holds l.second.holds l.first.start l.second.start)

  pub root_in : (a : ℕ) (D : State) → KeptRoots a D → KeptRoot rules l acc a D
  unfolding account_of goal_number
  root_in a D m = ⊎_elim (λ (h, e, d). (first, h, e, d)) (λ (h, e, d). (second, h, e, d))
      (roots_in l.first.holds l.second.holds l.first.start l.second.start a D m)

  pub in_root : (a : ℕ) (D : State) → KeptRoot rules l acc a D → KeptRoots a D
  unfolding account_of goal_number
  in_root a D (p, h, e, d) = by p h e d
    where
      by : (p : Party) → (account_of l p).holds ≡ true → a ≡ goal_number p → D ≡ (account_of l p).start → KeptRoots a D
      by first h e d = in_roots l.first.holds l.second.holds l.first.start l.second.start a D (inl (h, e, d))
      by second h e d = in_roots l.first.holds l.second.holds l.first.start l.second.start a D (inr (h, e, d))
