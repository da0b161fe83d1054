-- Laws of counting: the pigeonhole, `Outnumbers` against `Exactly`, and rising lists by their members. Assumes nothing.
use Prim.Native.Nat.{ℕ, zero, suc, ◌+◌, ◌≤◌, ◌<◌, zero-le}
use native.Mathlib.Omega.{arith}
use mathlib.Core.Path.{◌≡◌, refl, sym, ◌∙◌, ap, ap₂}
use mathlib.Core.List.Memᴰ
use mathlib.Core.List.{List, [], ◌∷◌, Memᴰ}
use mathlib.Core.Logic.{◌↔◌, ◌≢◌, ◌⊎◌, inl, inr, ⊎_elim}
use lib.ListN.{length, take, length-take}
use Rattle.steps.specs.Counting.{Distinct, none, more, Exactly, Outnumbers, Rising, rising_nil, rising_cons}

module _ {A : Type 0} where
  -- the list without the member at a place
  without : {x : A} {xs : List A} → Memᴰ x xs → List A
  without (Memᴰ.head {xs = xs} e) = xs
  without (Memᴰ.tail {x = y} m) = y ∷ without m

  without_length : {x : A} {xs : List A} (m : Memᴰ x xs) → length xs ≡ suc (length (without m))
  unfolding without
  without_length (Memᴰ.head e) = refl
  without_length (Memᴰ.tail m) = ap suc (without_length m)

  without_keeps : {x y : A} {xs : List A} (m : Memᴰ x xs) → y ≢ x → Memᴰ y xs → Memᴰ y (without m)
  unfolding without
  without_keeps (Memᴰ.head e) n (Memᴰ.head f) = absurd (n (f ∙ sym e))
  without_keeps (Memᴰ.head e) n (Memᴰ.tail k) = k
  without_keeps (Memᴰ.tail m) n (Memᴰ.head f) = Memᴰ.head f
  without_keeps (Memᴰ.tail m) n (Memᴰ.tail k) = Memᴰ.tail (without_keeps m n k)

  -- The pigeonhole: a list without repeats is no longer than one that has all its members
  pub pigeonhole : {xs ys : List A} → Distinct xs → ((x : A) → Memᴰ x xs → Memᴰ x ys) → length xs ≤ length ys
  pigeonhole none f = zero-le
  pigeonhole (more {x} new d) f =
      let at = f x (Memᴰ.head refl) in
      omega (arith, without_length at, pigeonhole d (λ y m. without_keeps at (new y m) (f y (Memᴰ.tail m))))

  take_member : {x : A} (n : ℕ) (xs : List A) → Memᴰ x (take n xs) → Memᴰ x xs
  take_member zero xs m = absurd (Memᴰ.not-nil m)
  take_member (suc n) [] m = m
  take_member (suc n) (x ∷ xs) (Memᴰ.head e) = Memᴰ.head e
  take_member (suc n) (x ∷ xs) (Memᴰ.tail m) = Memᴰ.tail (take_member n xs m)

  take_distinct : (n : ℕ) {xs : List A} → Distinct xs → Distinct (take n xs)
  take_distinct zero d = none
  take_distinct (suc n) none = none
  take_distinct (suc n) (more {xs = xs} new d) = more (λ y m. new y (take_member n xs m)) (take_distinct n d)

  -- Where a list holds exactly P, P outnumbers just the numbers below its length.
  pub exactly_outnumbers : {P : A → Type 0} {xs : List A} (k : ℕ) → Exactly P xs → Outnumbers P k ↔ (k < length xs)
  exactly_outnumbers {xs = xs} k e = (
    λ (ys, d, all, over). omega (arith, over, pigeonhole d (λ y m. (e.members y).1 (all y m))),
    λ l. (take (k + 1) xs, take_distinct (k + 1) e.once, (λ x m. (e.members x).0 (take_member (k + 1) xs m)), omega (arith, length-take (k + 1) xs)),
  )

  pub exactly_map : {P Q : A → Type 0} {xs : List A} → ((x : A) → P x ↔ Q x) → Exactly P xs → Exactly Q xs
  exactly_map f e = record { once = e.once; members = λ x. (λ m. (f x).0 ((e.members x).0 m), λ q. (e.members x).1 ((f x).1 q)) }

  pub outnumbers_map : {P Q : A → Type 0} (n : ℕ) → ((x : A) → P x → Q x) → Outnumbers P n → Outnumbers Q n
  outnumbers_map n f (xs, d, all, len) = (xs, d, (λ x m. f x (all x m)), len)

  -- Two lists that hold exactly the same are equally long.
  pub exactly_long : {P : A → Type 0} {xs ys : List A} → Exactly P xs → Exactly P ys → length xs ≡ length ys
  exactly_long e f =
      omega (arith, pigeonhole e.once (λ x k. (f.members x).1 ((e.members x).0 k)), pigeonhole f.once (λ y k. (e.members y).1 ((f.members y).0 k)))

  -- a list of things of P, and one thing of P more: P outnumbers the list
  pub full_outnumbers : (P : A → Type 0) (xs : List A) (y : A) → Distinct xs → ((x : A) → Memᴰ x xs → P x) → P y → ((x : A) → Memᴰ x xs → x ≢ y) → Outnumbers P (length xs)
  full_outnumbers P xs y d all h new = (y ∷ xs, more new d, (λ x m. each x (Memᴰ.cases_cons m)), omega arith)
    where
      each : (x : A) → (x ≡ y) ⊎ Memᴰ x xs → P x
      each x (inl e) = rw e h
      each x (inr m) = all x m

-- A rising list is determined by its members.
least : {x y : ℕ} {xs ys : List ℕ} → ((z : ℕ) → Memᴰ z ys → y < z) → ((z : ℕ) → Memᴰ z (x ∷ xs) → Memᴰ z (y ∷ ys)) → y ≤ x
least {x} {y} low f = ⊎_elim (λ e. omega arith) (λ m. omega (arith, low x m)) (Memᴰ.cases_cons (f x (Memᴰ.head refl)))

rest_of : {x y : ℕ} {xs ys : List ℕ} → x ≡ y → ((z : ℕ) → Memᴰ z xs → x < z) → ((z : ℕ) → Memᴰ z (x ∷ xs) → Memᴰ z (y ∷ ys)) → (z : ℕ) → Memᴰ z xs → Memᴰ z ys
rest_of e low f z m = ⊎_elim (λ q. absurd (omega (arith, low z m))) (λ k. k) (Memᴰ.cases_cons (f z (Memᴰ.tail m)))

pub rising_unique : {xs ys : List ℕ} → Rising xs → Rising ys → ((z : ℕ) → Memᴰ z xs → Memᴰ z ys) → ((z : ℕ) → Memᴰ z ys → Memᴰ z xs) → xs ≡ ys
rising_unique rising_nil rising_nil f g = refl
rising_unique rising_nil (rising_cons {x = y} low r) f g = absurd (Memᴰ.not-nil (g y (Memᴰ.head refl)))
rising_unique (rising_cons {x = x} low r) rising_nil f g = absurd (Memᴰ.not-nil (f x (Memᴰ.head refl)))
rising_unique (rising_cons {x = x} lx rx) (rising_cons {x = y} ly ry) f g =
    let e : x ≡ y = omega (arith, least ly f, least lx g) in
    ap₂ ◌∷◌ e (rising_unique rx ry (rest_of e lx f) (rest_of (sym e) ly g))

pub rising_distinct : {xs : List ℕ} → Rising xs → Distinct xs
rising_distinct rising_nil = none
rising_distinct (rising_cons {x = x} {xs = xs} low r) = more (λ y (m : Memᴰ y xs) (e : y ≡ x). omega (arith, low y m)) (rising_distinct r)
