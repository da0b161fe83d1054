-- The list of call record numbers by action and then state (request R-10): every number once, with rising keys, and no other list is so. Assumes nothing.
use Prim.Native.Nat.{ℕ, zero, suc, ◌+◌, ◌<◌, ◌≤◌}
use native.Mathlib.Omega.{arith}
use native.Mathlib.Decide.{dec_lt}
use mathlib.Core.Path.{◌≡◌, refl, sym, ap, ◌∙◌}
use mathlib.Core.List.Memᴰ
use mathlib.Core.List.{List, [], ◌∷◌, Memᴰ}
use mathlib.Core.Logic.{◌↔◌}
use lib.ListN.{length}
use Rattle.canonical.specs.Order.{Key, put, in_order}
use Rattle.canonical.specs.Rows.{CallRow, call_key, call_at, numbers, no_call}
use Rattle.canonical.specs.CallList.{call_list}
use Rattle.canonical.proofs.Ordered.{none, more}
use Rattle.canonical.proofs.Keys.{Compared, less, equal, greater, compare, Rising, first_member, in_order_rising, in_order_first, in_order_keyed, rising_unique}
use Rattle.canonical.proofs.Found.{numbers_out, numbers_in}
use Rattle.canonical.proofs.Prefix.{ordered_at}
use Rattle.canonical.proofs.AfterRounds.{Once}

module _ (calls : List CallRow) where
  abbrev pub key_at : ℕ → Key
  key_at i = call_key (call_at calls i)

  pub list_rises : Rising key_at (call_list calls)
  unfolding call_list
  list_rises = in_order_rising key_at (numbers 0 (length calls))

  module _ (once : Once call_key calls) where
    number_once : (i j : ℕ) → i < length calls → j < length calls → key_at i ≡ key_at j → i ≡ j
    number_once i j a b e = by (dec_lt i j) (dec_lt j i)
      where
        by : Dec (i < j) → Dec (j < i) → i ≡ j
        by (yes l) d = absurd (ordered_at no_call once i j l b e)
        by (no n) (yes l) = absurd (ordered_at no_call once j i l a (sym e))
        by (no n) (no m) = omega arith

    pub list_numbers : (i : ℕ) → Memᴰ i (call_list calls) ↔ (i < length calls)
    unfolding call_list
    list_numbers i = (
      λ m. let (a, b) = numbers_out 0 (length calls) (first_member key_at (in_order_first key_at (numbers 0 (length calls)) m)) in omega arith,
      λ l.
          let (j, m, e) = (in_order_keyed key_at (numbers 0 (length calls)) (key_at i)).1 (i, numbers_in i 0 (length calls) (omega arith) (omega arith), refl) in
          let (a, b) = numbers_out 0 (length calls) (first_member key_at (in_order_first key_at (numbers 0 (length calls)) m)) in
          Memᴰ.cast (number_once i j l (omega arith) (sym e)) m,
    )

    pub list_is : {l : List ℕ} → Rising key_at l → ((i : ℕ) → Memᴰ i l ↔ (i < length calls)) → l ≡ call_list calls
    list_is r f = rising_unique key_at r list_rises (λ i m. (list_numbers i).1 ((f i).0 m)) (λ i m. (f i).1 ((list_numbers i).0 m))

-- ---- its length

module _ {A : Type 0} (key : A → Key) where
  put_length : (x : A) (ys : List A) → ((y : A) → Memᴰ y ys → key x ≡ key y → ⊥) → length (put key x ys) ≡ suc (length ys)
  unfolding put
  put_length x [] n = refl
  put_length x (y ∷ ys) n = by (compare (key x) (key y)) (put_length x ys (λ z m. n z (Memᴰ.tail m)))
    where
      by : Compared (key x) (key y) → length (put key x ys) ≡ suc (length ys) → length (put key x (y ∷ ys)) ≡ suc (suc (length ys))
      by (less b t) e = rw t refl
      by (equal q t s) e = absurd (n y (Memᴰ.head refl) q)
      by (greater b t s) e = rw (t, s) (ap suc e)

  -- members whose keys are once are all kept
  in_order_length : {xs : List A} → Once key xs → length (in_order key xs) ≡ length xs
  unfolding in_order
  in_order_length none = refl
  in_order_length (more {x} {xs} low o) =
      put_length x (in_order key xs) (λ y m. low y (first_member key (in_order_first key xs m))) ∙ ap suc (in_order_length o)

numbers_length : (i n : ℕ) → length (numbers i n) ≡ n
unfolding numbers
numbers_length i zero = refl
numbers_length i (suc n) = ap suc (numbers_length (suc i) n)

module _ (calls : List CallRow) (once : Once call_key calls) where
  numbers_once : (i n : ℕ) → i + n ≤ length calls → Once (key_at calls) (numbers i n)
  unfolding numbers
  numbers_once i zero h = none
  numbers_once i (suc n) h =
      more (λ j m. let (a, b) = numbers_out (suc i) n m in ordered_at no_call once i j (omega arith) (omega arith)) (numbers_once (suc i) n (omega arith))

  pub list_length : length (call_list calls) ≡ length calls
  unfolding call_list
  list_length = in_order_length (key_at calls) (numbers_once 0 (length calls) (omega arith)) ∙ numbers_length 0 (length calls)
