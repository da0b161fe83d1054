-- Lists each of whose members stands in a relation to all behind it; members of `flat_map`. Assumes nothing.
use mathlib.Core.Path.{refl, subst}
use mathlib.Core.List.Memᴰ
use mathlib.Core.List.{List, [], ◌∷◌, ◌++◌, map, flat_map, Memᴰ}
use mathlib.Core.Logic.{⊎_elim}

pub data Ordered {A : Type 0} (R : A → A → Type 0) : List A → Type 0 where
  none : Ordered R []
  more : {x : A} {xs : List A} → ((y : A) → Memᴰ y xs → R x y) → Ordered R xs → Ordered R (x ∷ xs)

pub ordered_one : {A : Type 0} {R : A → A → Type 0} (x : A) → Ordered R (x ∷ [])
ordered_one x = more (λ y m. absurd (Memᴰ.not-nil m)) none

pub ordered_append : {A : Type 0} {R : A → A → Type 0} {xs ys : List A} → Ordered R xs → Ordered R ys → ((x y : A) → Memᴰ x xs → Memᴰ y ys → R x y) → Ordered R (xs ++ ys)
ordered_append none o c = o
ordered_append {ys = ys} (more {x} {xs} h p) o c = more
    (λ y m. ⊎_elim (h y) (λ k. c x y (Memᴰ.head refl) k) (Memᴰ.append_cases xs m))
    (ordered_append p o (λ a b k l. c a b (Memᴰ.tail k) l))

pub ordered_map : {A B : Type 0} {R : A → A → Type 0} {S : B → B → Type 0} (f : A → B) {xs : List A} → ((x y : A) → R x y → S (f x) (f y)) → Ordered R xs → Ordered S (map f xs)
ordered_map f up none = none
ordered_map {S = S} f up (more {x} {xs} h p) = more (λ y m. let (a, k, e) = Memᴰ.of_map f xs m in subst (S (f x)) e (up x a (h a k))) (ordered_map f up p)

module _ {A B : Type 0} (f : A → List B) where
  pub flat_out : {b : B} (xs : List A) → Memᴰ b (flat_map f xs) → (a : A) × Memᴰ a xs × Memᴰ b (f a)
  unfolding flat_map
  flat_out [] m = absurd (Memᴰ.not-nil m)
  flat_out (x ∷ xs) m = ⊎_elim (λ k. (x, Memᴰ.head refl, k)) (λ k. let (a, l, n) = flat_out xs k in (a, Memᴰ.tail l, n)) (Memᴰ.append_cases (f x) m)

  pub flat_in : {a : A} {b : B} {xs : List A} → Memᴰ a xs → Memᴰ b (f a) → Memᴰ b (flat_map f xs)
  unfolding flat_map
  flat_in {b = b} (Memᴰ.head {xs = xs} e) m = Memᴰ.append_left (flat_map f xs) (rw e at m)
  flat_in (Memᴰ.tail {x = x} k) m = Memᴰ.append_right (f x) (flat_in k m)

  pub ordered_flat : {R : A → A → Type 0} {S : B → B → Type 0} {xs : List A} → ((x y : A) (a b : B) → R x y → Memᴰ a (f x) → Memᴰ b (f y) → S a b) → ((x : A) → Memᴰ x xs → Ordered S (f x)) → Ordered R xs → Ordered S (flat_map f xs)
  unfolding flat_map
  ordered_flat up each none = none
  ordered_flat {S = S} up each (more {x} {xs} h p) = ordered_append (each x (Memᴰ.head refl)) (ordered_flat up (λ y m. each y (Memᴰ.tail m)) p)
      (λ a b k l. let (y, m, n) = flat_out xs l in up x y a b (h y m) k n)
