-- Tests on lists that compute, and what they show. Assumes nothing.
use mathlib.Core.Path.{◌≡◌, refl}
use mathlib.Core.Bool.{Bool, true, false, cond, not, ◌&&◌, ◌||◌}
use mathlib.Core.List.Memᴰ
use mathlib.Core.List.{List, [], ◌∷◌, ◌++◌, Memᴰ}
use mathlib.Core.Logic.{◌⊎◌, inl, inr, ⊎_elim}
use lib.Dec.{T, T_not}
use Rattle.steps.specs.Counting.{Distinct, none, more}

unfoldable pub both : (a b : Bool) → T (a && b) → T a × T b
both true b t = (tt, t)
both false b t = absurd t

unfoldable pub both_l : (a b : Bool) → T (a && b) → T a
both_l a b t = (both a b t).0

unfoldable pub both_r : (a b : Bool) → T (a && b) → T b
both_r a b t = (both a b t).1

unfoldable pub both_in : (a b : Bool) → T a → T b → T (a && b)
both_in true b s t = t
both_in false b s t = absurd s

unfoldable pub either : (a b : Bool) → T (a || b) → T a ⊎ T b
either true b t = inl tt
either false b t = inr t

pub holds_true : (b : Bool) → T b → b ≡ true
holds_true true t = refl
holds_true false t = absurd t

pub true_holds : (b : Bool) → b ≡ true → T b
true_holds b e = rw e tt

module _ {X : Type 0} where
  abbrev pub every : (X → Bool) → List X → Bool
  every p [] = true
  every p (x ∷ xs) = p x && every p xs

  abbrev pub any : (X → Bool) → List X → Bool
  any p [] = false
  any p (x ∷ xs) = p x || any p xs

  unfoldable pub every_at : (p : X → Bool) {x : X} {xs : List X} → T (every p xs) → Memᴰ x xs → T (p x)
  every_at p t (Memᴰ.head {x = y} {xs = ys} e) = rw e (both (p y) (every p ys) t).0
  every_at p t (Memᴰ.tail {x = y} {xs = ys} m) = every_at p (both (p y) (every p ys) t).1 m

  unfoldable pub any_at : (p : X → Bool) (xs : List X) → T (any p xs) → (x : X) × Memᴰ x xs × T (p x)
  any_at p [] t = absurd t
  any_at p (x ∷ xs) t = ⊎_elim (λ s. (x, Memᴰ.head refl, s)) (λ s. let (y, m, h) = any_at p xs s in (y, Memᴰ.tail m, h)) (either (p x) (any p xs) t)

unfoldable pub or_l : (a b : Bool) → T a → T (a || b)
or_l true b t = tt
or_l false b t = absurd t

unfoldable pub or_r : (a b : Bool) → T b → T (a || b)
or_r true b t = tt
or_r false b t = t

unfoldable pub any_in : {X : Type 0} (p : X → Bool) {y : X} {ys : List X} → T (p y) → Memᴰ y ys → T (any p ys)
any_in p h (Memᴰ.head {x = x} {xs = xs} e) = or_l (p x) (any p xs) (rw e at h)
any_in p h (Memᴰ.tail {x = x} {xs = xs} m) = or_r (p x) (any p xs) (any_in p h m)

module _ {X Y : Type 0} where
  -- f of the members that pass the test
  abbrev pub select : (X → Bool) → (X → Y) → List X → List Y
  select p f [] = []
  select p f (x ∷ xs) = cond (p x) (f x ∷ select p f xs) (select p f xs)

  pub select_in : (p : X → Bool) (f : X → Y) {x : X} {xs : List X} → T (p x) → Memᴰ x xs → Memᴰ (f x) (select p f xs)
  select_in p f {x} t (Memᴰ.head {x = y} e) = rw (← e, holds_true (p x) t) (Memᴰ.head refl)
  select_in p f {x} t (Memᴰ.tail {x = y} {xs = ys} m) = later (p y) (select_in p f t m)
    where
      later : (b : Bool) → Memᴰ (f x) (select p f ys) → Memᴰ (f x) (cond b (f y ∷ select p f ys) (select p f ys))
      later true k = Memᴰ.tail k
      later false k = k

  pub select_out : (p : X → Bool) (f : X → Y) {y : Y} (xs : List X) → Memᴰ y (select p f xs) → (x : X) × Memᴰ x xs × T (p x) × (y ≡ f x)
  select_out p f [] m = absurd (Memᴰ.not-nil m)
  select_out p f {y} (x ∷ xs) m = go (p x) refl m (λ k. let (z, n, t, e) = select_out p f xs k in (z, Memᴰ.tail n, t, e))
    where
      Found : Type 0
      Found = (z : X) × Memᴰ z (x ∷ xs) × T (p z) × (y ≡ f z)

      go : (b : Bool) → p x ≡ b → Memᴰ y (cond b (f x ∷ select p f xs) (select p f xs)) → (Memᴰ y (select p f xs) → Found) → Found
      go true e (Memᴰ.head h) k = (x, Memᴰ.head refl, true_holds (p x) e, h)
      go true e (Memᴰ.tail n) k = k n
      go false e n k = k n

  abbrev pub flat : (X → List Y) → List X → List Y
  flat f [] = []
  flat f (x ∷ xs) = f x ++ flat f xs

  pub flat_in : (f : X → List Y) {x : X} {y : Y} {xs : List X} → Memᴰ x xs → Memᴰ y (f x) → Memᴰ y (flat f xs)
  flat_in f (Memᴰ.head {xs = xs} e) k = Memᴰ.append_left (flat f xs) (rw e at k)
  flat_in f (Memᴰ.tail {x = x} m) k = Memᴰ.append_right (f x) (flat_in f m k)

  pub flat_out : (f : X → List Y) {y : Y} (xs : List X) → Memᴰ y (flat f xs) → (x : X) × Memᴰ x xs × Memᴰ y (f x)
  flat_out f [] m = absurd (Memᴰ.not-nil m)
  flat_out f (x ∷ xs) m = ⊎_elim (λ k. (x, Memᴰ.head refl, k)) (λ k. let (z, n, h) = flat_out f xs k in (z, Memᴰ.tail n, h)) (Memᴰ.append_cases (f x) m)

-- the members are distinct by a test of equality
module _ {X : Type 0} (same : X → X → Bool) where
  abbrev pub distinct : List X → Bool
  distinct [] = true
  distinct (x ∷ xs) = not (any (same x) xs) && distinct xs

  pub distinct_of : ((x : X) → T (same x x)) → (xs : List X) → T (distinct xs) → Distinct xs
  distinct_of r [] t = none
  distinct_of r (x ∷ xs) t =
      let (h, hs) = both (not (any (same x) xs)) (distinct xs) t in
      more (λ y m e. T_not (any (same x) xs) h (any_in (same x) (rw e (r x)) m)) (distinct_of r xs hs)
