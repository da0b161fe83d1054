-- Laws of `in_order` and `new_to`: rising keys, one member for each key, the first of the list. Assumes nothing.
use Prim.Native.Nat.{ℕ, ◌<◌}
use native.Mathlib.Omega.{arith}
use native.Mathlib.Decide.{dec_lt}
use mathlib.Core.Path.{◌≡◌, refl, sym, ap, ap₂, subst, ◌∙◌}
use mathlib.Core.Bool.{Bool, true, false, cond, ◌&&◌, ◌||◌}
use mathlib.Core.List.Memᴰ
use mathlib.Core.List.{List, [], ◌∷◌, Memᴰ}
use mathlib.Core.Logic.{◌⊎◌, inl, inr, ⊎_elim, ◌↔◌}
use lib.Dec.{eqb}
use borrow.Author.Tests.{lt-ltb, le-ltb, eq-eqb, ne_eqb, eqb-true}
use Rattle.sorting.specs.Shuffled.{Before}
use Rattle.canonical.specs.Order.{Key, before, same, holds_key, put, in_order, new_to}
use Rattle.canonical.proofs.Ordered.{Ordered, none, more}

-- ---- keys

-- How two keys stand to each other, with what the tests say.
pub data Compared (x y : Key) : Type 0 where
  less : Before x y → before x y ≡ true → Compared x y
  equal : x ≡ y → before x y ≡ false → same x y ≡ true → Compared x y
  greater : Before y x → before x y ≡ false → same x y ≡ false → Compared x y

pub compare : (x y : Key) → Compared x y
compare (a, b) (c, d) = by (dec_lt a c) (dec_lt c a) (dec_lt b d) (dec_lt d b)
  where
    by : Dec (a < c) → Dec (c < a) → Dec (b < d) → Dec (d < b) → Compared (a, b) (c, d)
    by (yes l) q r s = less (inl l) (rw (lt-ltb a c l) refl)
    by (no n) (yes l) r s = greater (inl l) (rw (le-ltb a c (omega arith), ne_eqb a c (λ e. omega arith)) refl) (rw (ne_eqb a c (λ e. omega arith)) refl)
    by (no n) (no m) (yes l) s = less (inr (omega arith, l)) (rw (le-ltb a c (omega arith), eq-eqb a c (omega arith), lt-ltb b d l) refl)
    by (no n) (no m) (no k) (yes l) = greater (inr (omega arith, l)) (rw (le-ltb a c (omega arith), eq-eqb a c (omega arith), le-ltb b d (omega arith)) refl) (rw (eq-eqb a c (omega arith), ne_eqb b d (λ e. omega arith)) refl)
    by (no n) (no m) (no k) (no l) =
        let e : a ≡ c = omega arith in
        let f : b ≡ d = omega arith in
        equal (ap₂ (λ (a b : ℕ). (a, b)) e f) (rw (le-ltb a c (omega arith), eq-eqb a c e, le-ltb b d (omega arith)) refl) (rw (eq-eqb a c e, eq-eqb b d f) refl)

pub before_trans : {x y z : Key} → Before x y → Before y z → Before x z
before_trans (inl l) (inl m) = inl (omega arith)
before_trans (inl l) (inr (e, m)) = inl (omega arith)
before_trans (inr (e, l)) (inl m) = inl (omega arith)
before_trans (inr (e, l)) (inr (f, m)) = inr (e ∙ f, omega arith)

pub before_not : {x y : Key} → Before x y → x ≡ y → ⊥
before_not (inl l) e = omega (arith, ap (λ (k : Key). k.0) e)
before_not (inr (f, l)) e = omega (arith, ap (λ (k : Key). k.1) e)

pub same_true : (x y : Key) → same x y ≡ true → x ≡ y
same_true x y e = by (compare x y)
  where
    by : Compared x y → x ≡ y
    by (less b t) = by_parts (eqb x.0 y.0) refl e
      where
        by_parts : (p : Bool) → eqb x.0 y.0 ≡ p → (p && eqb x.1 y.1) ≡ true → x ≡ y
        by_parts true p q = ap₂ (λ (a b : ℕ). (a, b)) (eqb-true x.0 y.0 p) (eqb-true x.1 y.1 q)
        by_parts false p q = let z : ◌≡◌ {A = ℕ} 0 1 = cc in absurd (omega arith)
    by (equal f g h) = f
    by (greater b t s) = let z : ◌≡◌ {A = ℕ} 0 1 = cc in absurd (omega arith)

pub same_of : (x y : Key) → x ≡ y → same x y ≡ true
same_of x y e = rw (eq-eqb x.0 y.0 (ap (λ (k : Key). k.0) e), eq-eqb x.1 y.1 (ap (λ (k : Key). k.1) e)) refl

module _ {A : Type 0} (key : A → Key) where
  -- Strictly rising keys.
  abbrev pub Rising : List A → Type 0
  Rising = Ordered (λ (x y : A). Before (key x) (key y))

  -- Some member has this key.
  abbrev pub Keyed : List A → Key → Type 0
  Keyed xs k = (x : A) × Memᴰ x xs × (key x ≡ k)

  -- x is a member, and no member before it has its key.
  pub data First (x : A) : List A → Type 0 where
    here : {y : A} {ys : List A} → x ≡ y → First x (y ∷ ys)
    later : {y : A} {ys : List A} → (key x ≡ key y → ⊥) → First x ys → First x (y ∷ ys)

  pub first_member : {x : A} {xs : List A} → First x xs → Memᴰ x xs
  first_member (here e) = Memᴰ.head e
  first_member (later n f) = Memᴰ.tail (first_member f)

  -- each key has a first member
  pub first_of : {x : A} {xs : List A} → Memᴰ x xs → (y : A) × First y xs × (key y ≡ key x)
  first_of {x} (Memᴰ.head {x = y} e) = (y, here refl, ap key (sym e))
  first_of {x} (Memᴰ.tail {x = y} {xs = ys} m) = let (z, f, e) = first_of m in by z f e (compare (key z) (key y))
    where
      by : (z : A) → First z ys → key z ≡ key x → Compared (key z) (key y) → (w : A) × First w (y ∷ ys) × (key w ≡ key x)
      by z f e (less b t) = (z, later (before_not b) f, e)
      by z f e (equal q t s) = (y, here refl, sym q ∙ e)
      by z f e (greater b t s) = (z, later (λ q. before_not b (sym q)) f, e)

  -- and only one
  pub first_once : {x y : A} {xs : List A} → First x xs → First y xs → key x ≡ key y → x ≡ y
  first_once (here e) (here f) k = e ∙ sym f
  first_once (here e) (later n f) k = absurd (n (sym k ∙ ap key e))
  first_once (later n f) (here e) k = absurd (n (k ∙ ap key e))
  first_once (later n f) (later m g) k = first_once f g k

  -- ---- `put`
  module _ (x : A) where
    pub put_out : {z : A} (ys : List A) → Memᴰ z (put key x ys) → (z ≡ x) ⊎ Memᴰ z ys
    unfolding put
    put_out [] m = inl (Memᴰ.eq_of_singleton m)
    put_out {z} (y ∷ ys) m = by (compare (key x) (key y)) (λ k. put_out ys k)
      where
        by : Compared (key x) (key y) → (Memᴰ z (put key x ys) → (z ≡ x) ⊎ Memᴰ z ys) → (z ≡ x) ⊎ Memᴰ z (y ∷ ys)
        by (less b t) rest = Memᴰ.cases_cons (rw t at m)
        by (equal q t s) rest = ⊎_elim inl (λ k. inr (Memᴰ.tail k)) (Memᴰ.cases_cons (rw (t, s) at m))
        by (greater b t s) rest = ⊎_elim (λ e. inr (Memᴰ.head e)) (λ k. ⊎_elim inl (λ k. inr (Memᴰ.tail k)) (rest k)) (Memᴰ.cases_cons (rw (t, s) at m))

    -- x stands in it, and whatever has another key
    pub put_new : (ys : List A) → Memᴰ x (put key x ys)
    unfolding put
    put_new [] = Memᴰ.head refl
    put_new (y ∷ ys) = by (compare (key x) (key y)) (put_new ys)
      where
        by : Compared (key x) (key y) → Memᴰ x (put key x ys) → Memᴰ x (put key x (y ∷ ys))
        by (less b t) k = rw t (Memᴰ.head refl)
        by (equal q t s) k = rw (t, s) (Memᴰ.head refl)
        by (greater b t s) k = rw (t, s) (Memᴰ.tail k)

    pub put_old : {z : A} (ys : List A) → (key z ≡ key x → ⊥) → Memᴰ z ys → Memᴰ z (put key x ys)
    unfolding put
    put_old [] n m = absurd (Memᴰ.not-nil m)
    put_old {z} (y ∷ ys) n m = by (compare (key x) (key y)) (put_old ys n) (Memᴰ.cases_cons m)
      where
        by : Compared (key x) (key y) → (Memᴰ z ys → Memᴰ z (put key x ys)) → (z ≡ y) ⊎ Memᴰ z ys → Memᴰ z (put key x (y ∷ ys))
        by (less b t) k c = rw t (Memᴰ.tail m)
        by (equal q t s) k (inl e) = absurd (n (ap key e ∙ sym q))
        by (equal q t s) k (inr l) = rw (t, s) (Memᴰ.tail l)
        by (greater b t s) k (inl e) = rw (t, s) (Memᴰ.head e)
        by (greater b t s) k (inr l) = rw (t, s) (Memᴰ.tail (k l))

    pub put_rising : {ys : List A} → Rising ys → Rising (put key x ys)
    unfolding put
    put_rising none = more (λ y m. absurd (Memᴰ.not-nil m)) none
    put_rising (more {x = y} {xs = ys} low r) = by (compare (key x) (key y)) (put_rising r)
      where
        by : Compared (key x) (key y) → Rising (put key x ys) → Rising (put key x (y ∷ ys))
        by (less b t) k = rw t (more (λ z m. ⊎_elim (λ e. subst (λ (w : A). Before (key x) (key w)) (sym e) b) (λ l. before_trans b (low z l)) (Memᴰ.cases_cons m)) (more low r))
        by (equal q t s) k = rw (t, s) (more (λ z m. subst (λ (c : Key). Before c (key z)) (sym q) (low z m)) r)
        by (greater b t s) k = rw (t, s) (more (λ z m. ⊎_elim (λ e. subst (λ (w : A). Before (key y) (key w)) (sym e) b) (λ l. low z l) (put_out ys m)) k)

    -- nothing else has its key
    pub put_once : {z : A} {ys : List A} → Rising ys → Memᴰ z (put key x ys) → key z ≡ key x → z ≡ x
    put_once {z} {ys} r m e = rising_once (put_rising r) m (put_new ys) e
      where
        rising_once : {u v : A} {xs : List A} → Rising xs → Memᴰ u xs → Memᴰ v xs → key u ≡ key v → u ≡ v
        rising_once (more low r) (Memᴰ.head e) (Memᴰ.head f) k = e ∙ sym f
        rising_once {u} {v} (more low r) (Memᴰ.head e) (Memᴰ.tail m) k = absurd (before_not (low v m) (ap key (sym e) ∙ k))
        rising_once {u} {v} (more low r) (Memᴰ.tail m) (Memᴰ.head e) k = absurd (before_not (low u m) (ap key (sym e) ∙ sym k))
        rising_once (more low r) (Memᴰ.tail m) (Memᴰ.tail n) k = rising_once r m n k
        rising_once {u = u} {v = v} none x8 _ k = elim x8 [ ]

  -- ---- `in_order`

  pub in_order_rising : (xs : List A) → Rising (in_order key xs)
  unfolding in_order
  in_order_rising [] = none
  in_order_rising (x ∷ xs) = put_rising x (in_order_rising xs)

  -- Its members are the first of their keys.
  pub in_order_first : {z : A} (xs : List A) → Memᴰ z (in_order key xs) → First z xs
  unfolding in_order
  in_order_first [] m = absurd (Memᴰ.not-nil m)
  in_order_first {z} (x ∷ xs) m = by (compare (key z) (key x)) (λ l. in_order_first xs l) (put_out x (in_order key xs) m)
    where
      by : Compared (key z) (key x) → (Memᴰ z (in_order key xs) → First z xs) → (z ≡ x) ⊎ Memᴰ z (in_order key xs) → First z (x ∷ xs)
      by c k (inl e) = here e
      by (less b t) k (inr l) = later (before_not b) (k l)
      by (equal q t s) k (inr l) = here (put_once x (in_order_rising xs) m q)
      by (greater b t s) k (inr l) = later (λ q. before_not b (sym q)) (k l)

  pub first_in_order : {z : A} {xs : List A} → First z xs → Memᴰ z (in_order key xs)
  unfolding in_order
  first_in_order (here {y} {ys} e) = rw e (put_new y (in_order key ys))
  first_in_order (later {y} {ys} n f) = put_old y (in_order key ys) n (first_in_order f)

  -- It has a member for each key of the list.
  pub in_order_keyed : (xs : List A) (k : Key) → Keyed (in_order key xs) k ↔ Keyed xs k
  in_order_keyed xs k = (
    λ (x, m, e). (x, first_member (in_order_first xs m), e),
    λ (x, m, e). let (y, f, g) = first_of m in (y, first_in_order f, g ∙ e),
  )

  -- ---- lists with rising keys are determined by their members

  rest_of : {x y : A} {xs ys : List A} → x ≡ y → ((z : A) → Memᴰ z xs → Before (key x) (key z)) → ((z : A) → Memᴰ z (x ∷ xs) → Memᴰ z (y ∷ ys)) → (z : A) → Memᴰ z xs → Memᴰ z ys
  rest_of e low f z m = ⊎_elim (λ q. absurd (before_not (low z m) (ap key (e ∙ sym q)))) (λ k. k) (Memᴰ.cases_cons (f z (Memᴰ.tail m)))

  pub rising_unique : {xs ys : List A} → Rising xs → Rising ys → ((z : A) → Memᴰ z xs → Memᴰ z ys) → ((z : A) → Memᴰ z ys → Memᴰ z xs) → xs ≡ ys
  rising_unique none none f g = refl
  rising_unique none (more {x = y} low r) f g = absurd (Memᴰ.not-nil (g y (Memᴰ.head refl)))
  rising_unique (more {x = x} low r) none f g = absurd (Memᴰ.not-nil (f x (Memᴰ.head refl)))
  rising_unique (more {x = x} {xs = xs} lx rx) (more {x = y} {xs = ys} ly ry) f g =
      by (Memᴰ.cases_cons (f x (Memᴰ.head refl))) (Memᴰ.cases_cons (g y (Memᴰ.head refl))) (λ e. rising_unique rx ry (rest_of e lx f) (rest_of (sym e) ly g))
    where
      by : (x ≡ y) ⊎ Memᴰ x ys → (y ≡ x) ⊎ Memᴰ y xs → (x ≡ y → xs ≡ ys) → x ∷ xs ≡ y ∷ ys
      by (inl e) q k = ap₂ ◌∷◌ e (k e)
      by (inr m) (inl e) k = ap₂ ◌∷◌ (sym e) (k (sym e))
      by (inr m) (inr n) k = absurd (before_not (before_trans (ly x m) (lx y n)) refl)

  -- A list with rising keys, each member the first found of its key, and a member for each key found: this is `in_order` of what is found.
  pub in_order_is : {xs ys : List A} → Rising ys → ((z : A) → Memᴰ z ys → First z xs) → ((z : A) → Memᴰ z xs → Keyed ys (key z)) → ys ≡ in_order key xs
  in_order_is {xs} {ys} r sound all = rising_unique r (in_order_rising xs) (λ z m. first_in_order (sound z m)) (λ z m. by z (in_order_first xs m))
    where
      by : (z : A) → First z xs → Memᴰ z ys
      by z f = let (y, m, e) = all z (first_member f) in Memᴰ.cast (first_once f (sound y m) (sym e)) m

  -- ---- `new_to`

  pub keyed_of : (held : List A) (k : Key) → holds_key key held k ≡ true → Keyed held k
  unfolding holds_key
  keyed_of [] k e = let z : ◌≡◌ {A = ℕ} 0 1 = cc in absurd (omega arith)
  keyed_of (x ∷ xs) k e = by (same (key x) k) refl e (keyed_of xs k)
    where
      by : (b : Bool) → same (key x) k ≡ b → (b || holds_key key xs k) ≡ true → (holds_key key xs k ≡ true → Keyed xs k) → Keyed (x ∷ xs) k
      by true s h rest = (x, Memᴰ.head refl, same_true (key x) k s)
      by false s h rest = let (y, m, f) = rest h in (y, Memᴰ.tail m, f)

  pub of_keyed : {x : A} {held : List A} {k : Key} → Memᴰ x held → key x ≡ k → holds_key key held k ≡ true
  unfolding holds_key
  of_keyed {x} {k = k} (Memᴰ.head {x = y} e) f = rw (same_of (key y) k (ap key (sym e) ∙ f)) refl
  of_keyed {x} {k = k} (Memᴰ.tail {x = y} {xs = ys} m) f = by (same (key y) k) (of_keyed m f)
    where
      by : (b : Bool) → holds_key key ys k ≡ true → (b || holds_key key ys k) ≡ true
      by true h = refl
      by false h = h

  -- Whether some member has a key.
  pub keyed : (held : List A) (k : Key) → Dec (Keyed held k)
  keyed held k = by (holds_key key held k) refl
    where
      by : (b : Bool) → holds_key key held k ≡ b → Dec (Keyed held k)
      by true e = yes (keyed_of held k e)
      by false e = no (λ (x, m, f). let g = of_keyed m f in let z : ◌≡◌ {A = ℕ} 0 1 = cc in omega arith)

  not_held : (held : List A) (k : Key) → (Keyed held k → ⊥) → holds_key key held k ≡ false
  not_held held k n = by (holds_key key held k) refl
    where
      by : (b : Bool) → holds_key key held k ≡ b → holds_key key held k ≡ false
      by true e = absurd (n (keyed_of held k e))
      by false e = e

  module _ (held : List A) where
    pub new_to_first : {x : A} {xs : List A} → (Keyed held (key x) → ⊥) → First x xs → First x (new_to key held xs)
    unfolding new_to
    new_to_first n (here {y} {ys} e) = rw (not_held held (key y) (rw e at n)) (here e)
    new_to_first {x} n (later {y} {ys} d f) = by (holds_key key held (key y)) (new_to_first n f)
      where
        by : (b : Bool) → First x (new_to key held ys) → First x (cond b (new_to key held ys) (y ∷ new_to key held ys))
        by true g = g
        by false g = later d g

    pub new_to_member : {x : A} (xs : List A) → Memᴰ x (new_to key held xs) → Memᴰ x xs × (Keyed held (key x) → ⊥)
    unfolding new_to
    new_to_member [] m = absurd (Memᴰ.not-nil m)
    new_to_member {x} (y ∷ ys) m = by (holds_key key held (key y)) refl m (λ l. new_to_member ys l)
      where
        by : (b : Bool) → holds_key key held (key y) ≡ b → Memᴰ x (cond b (new_to key held ys) (y ∷ new_to key held ys)) → (Memᴰ x (new_to key held ys) → Memᴰ x ys × (Keyed held (key x) → ⊥)) → Memᴰ x (y ∷ ys) × (Keyed held (key x) → ⊥)
        by true h l k = let (a, n) = k l in (Memᴰ.tail a, n)
        by false h (Memᴰ.head e) k = (Memᴰ.head e, λ (z, m, f). let g = of_keyed m (f ∙ ap key e) in let w : ◌≡◌ {A = ℕ} 0 1 = cc in omega arith)
        by false h (Memᴰ.tail l) k = let (a, n) = k l in (Memᴰ.tail a, n)

  -- ---- the first of a list in the order R is the least by R
  module _ {R : A → A → Type 0} where
    pub first_least : {x : A} {xs : List A} → Ordered R xs → First x xs → (y : A) → Memᴰ y xs → key y ≡ key x → (x ≡ y) ⊎ R x y
    first_least (more {x = h} low r) (here e) y m k = ⊎_elim (λ f. inl (e ∙ sym f)) (λ l. inr (subst (λ (w : A). R w y) (sym e) (low y l))) (Memᴰ.cases_cons m)
    first_least (more {xs = xs} low r) (later n f) y m k = ⊎_elim (λ e. absurd (n (sym k ∙ ap key e))) (λ l. first_least r f y l k) (Memᴰ.cases_cons m)
    first_least none x8 y m k = elim x8 [ ]

    pub least_first : {x : A} {xs : List A} → ((y z : A) → R y z → R z y → ⊥) → Ordered R xs → Memᴰ x xs → ((y : A) → Memᴰ y xs → key y ≡ key x → (x ≡ y) ⊎ R x y) → First x xs
    least_first one (more low r) (Memᴰ.head e) least = here e
    least_first {x} one (more {x = h} {xs = xs} low r) (Memᴰ.tail m) least = later
        (λ k. ⊎_elim (λ e. one x x (subst (λ (w : A). R w x) (sym e) (low x m)) (subst (λ (w : A). R w x) (sym e) (low x m))) (λ l. one x h l (low x m)) (least h (Memᴰ.head refl) (sym k)))
        (least_first one r m (λ y l k. least y (Memᴰ.tail l) k))
    least_first {x = x} one none x8 least = elim x8 [ ]
