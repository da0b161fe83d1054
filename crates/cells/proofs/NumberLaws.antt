-- Laws of numbers kept in bytes: what they are read from, one of them put anew, and all of them 0. Assumes nothing.
use Prim.Native.Nat.{ℕ, zero, suc, ◌+◌, ◌-◌, ◌*◌, ◌/◌, ◌%◌, ◌^◌, ◌<◌, ◌≤◌, min}
use native.Mathlib.Omega.{arith}
use native.Mathlib.Nat.{add-zero}
use mathlib.Core.Path.{◌≡◌, refl, sym, ap, ◌∙◌}
use mathlib.Core.Bool.{Bool, true, false}
use mathlib.Core.List.{List}
use mathlib.Core.Logic.{◌≢◌, ◌⊎◌, inl, inr}
use lib.ListN.{length, get_or, set, length-set, replicate, length-replicate, get_or-eq_default}
use lib.Seq.{get_or-set_same, get_or-set_other, ext_get_or}
use lib.Dec.{eqb, ltb}
use borrow.Author.Tests.{eqb-true, eqb-false, ltb-true, ltb-false}
use Rattle.cells.specs.Numbers.{limit, number, Kept, tabulate, joined, numbers, Zeros}

-- ---- the list of numbers

tabulate_long : (n : ℕ) (f : ℕ → ℕ) → length (tabulate n f) ≡ n
unfolding tabulate
tabulate_long zero f = refl
tabulate_long (suc n) f = ap suc (tabulate_long n (λ i. f (suc i)))

tabulate_at : (n : ℕ) (f : ℕ → ℕ) (i : ℕ) → i < n → get_or (tabulate n f) i 0 ≡ f i
unfolding tabulate
tabulate_at zero f i l = absurd (omega arith)
tabulate_at (suc n) f zero l = refl
tabulate_at (suc n) f (suc i) l = tabulate_at n (λ j. f (suc j)) i (omega arith)

numbers_long : (bytes : List ℕ) → length (numbers bytes) ≡ min 65536 (length bytes - 131072)
unfolding numbers
numbers_long bytes = tabulate_long (min 65536 (length bytes - 131072)) _

pub number_at : (bytes : List ℕ) (n : ℕ) → n < length (numbers bytes) → get_or (numbers bytes) n 0 ≡ joined bytes n
unfolding numbers
number_at bytes n l = tabulate_at (min 65536 (length bytes - 131072)) _ n (rw (tabulate_long (min 65536 (length bytes - 131072)) _) at l)

-- A number's bytes are all there.
pub record There (bytes : List ℕ) (n : ℕ) : Type 0 where
  pub few : n < 65536
  pub fits : 131072 + n + 1 ≤ length bytes

pub there : (bytes : List ℕ) (n : ℕ) → n < length (numbers bytes) → There bytes n
there bytes n l = record { few = omega (arith, numbers_long bytes); fits = omega (arith, numbers_long bytes) }

-- a number, byte by byte
pub joined_bytes : (bytes : List ℕ) (n : ℕ) → joined bytes n ≡ number 2 bytes (2 * n) + 65536 * get_or bytes (131072 + n) 0
unfolding number
joined_bytes bytes n = let e : 131072 + n + 0 ≡ 131072 + n = omega arith in rw e (omega arith)

-- ---- bytes put anew

number_same : (w : ℕ) (bytes bytes' : List ℕ) (p : ℕ) → ((i : ℕ) → i < w → get_or bytes' (p + i) 0 ≡ get_or bytes (p + i) 0) → number w bytes' p ≡ number w bytes p
unfolding number
number_same zero bytes bytes' p same = refl
number_same (suc w) bytes bytes' p same =
    let low = number_same w bytes bytes' p (λ i l. same i (omega arith)) in
    rw (low, same w (omega arith)) refl

-- the lowest byte
pub kept_first : (bytes : List ℕ) (p value : ℕ) → p < length bytes → Kept 1 bytes p value (set bytes p (value % 256))
unfolding number
kept_first bytes p value l = record {
  long = length-set bytes p (value % 256);
  here = rw (add-zero p, get_or-set_same bytes p (value % 256) 0 l) (omega arith);
  other = λ q far. get_or-set_other bytes p q (value % 256) 0 (apart q far);
}
  where
    apart : (q : ℕ) → (q < p) ⊎ (p + 1 ≤ q) → q ≢ p
    apart q (inl h) e = omega arith
    apart q (inr h) e = omega arith

-- one more byte
pub kept_next : (w : ℕ) {bytes bytes' : List ℕ} {p value : ℕ} → Kept w bytes p value bytes' → p + w < length bytes
    → value % 256 ^ suc w ≡ value % 256 ^ w + 256 ^ w * (value / 256 ^ w % 256) → Kept (suc w) bytes p value (set bytes' (p + w) (value / 256 ^ w % 256))
unfolding number
kept_next w {bytes} {bytes'} {p} {value} k l split = record {
  long = length-set bytes' (p + w) digit ∙ k.long;
  here = (let low = number_same w bytes' (set bytes' (p + w) digit) p (λ i h. get_or-set_other bytes' (p + w) (p + i) digit 0 (λ e. omega arith)) in
      rw (low, get_or-set_same bytes' (p + w) digit 0 (omega (arith, k.long)), k.here) (sym split));
  other = λ q far. get_or-set_other bytes' (p + w) q digit 0 (apart q far) ∙ k.other q (farther q far);
}
  where
    digit : ℕ
    digit = value / 256 ^ w % 256

    apart : (q : ℕ) → (q < p) ⊎ (p + suc w ≤ q) → q ≢ p + w
    apart q (inl h) e = omega arith
    apart q (inr h) e = omega arith

    farther : (q : ℕ) → (q < p) ⊎ (p + suc w ≤ q) → (q < p) ⊎ (p + w ≤ q)
    farther q (inl h) = inl h
    farther q (inr h) = inr (omega arith)

-- what stands elsewhere
kept_apart : (w : ℕ) {bytes bytes' : List ℕ} {p value : ℕ} → Kept w bytes p value bytes' → (v q : ℕ) → (q + v ≤ p) ⊎ (p + w ≤ q) → number v bytes' q ≡ number v bytes q
kept_apart w {bytes} {bytes'} {p} k v q far = number_same v bytes bytes' q (λ i h. k.other (q + i) (each far i h))
  where
    each : (q + v ≤ p) ⊎ (p + w ≤ q) → (i : ℕ) → i < v → (q + i < p) ⊎ (p + w ≤ q + i)
    each (inl z) i h = inl (omega arith)
    each (inr z) i h = inr (omega arith)

-- the list with one number put anew: its two parts are put one after the other
module _ (bytes middle bytes' : List ℕ) (n value : ℕ) (l : n < length (numbers bytes)) (small : value < limit)
    (low : Kept 2 bytes (2 * n) value middle) (high : Kept 1 middle (131072 + n) (value / 65536) bytes') where
  same_long : length (numbers bytes') ≡ length (numbers bytes)
  same_long = numbers_long bytes' ∙ rw (high.long, low.long) (sym (numbers_long bytes))

  few : n < 65536
  few = (there bytes n l).few

  here : joined bytes' n ≡ value
  here = rw (kept_apart 1 high 2 (2 * n) (inl (omega (arith, few))), low.here, high.here) (omega arith)

  beside : (i : ℕ) → i < 65536 → i ≢ n → joined bytes' i ≡ joined bytes i
  beside i f e =
      rw (
        kept_apart 1 high 2 (2 * i) (inl (omega arith)),
        kept_apart 2 low 2 (2 * i) (pair (ltb i n) refl),
        kept_apart 1 high 1 (131072 + i) (rest (ltb i n) refl),
        kept_apart 2 low 1 (131072 + i) (inr (omega (arith, few))),
      ) refl
    where
      pair : (b : Bool) → ltb i n ≡ b → (2 * i + 2 ≤ 2 * n) ⊎ (2 * n + 2 ≤ 2 * i)
      pair true z = inl (omega (arith, ltb-true i n z))
      pair false z = inr (omega (arith, ltb-false i n z, e))

      rest : (b : Bool) → ltb i n ≡ b → (131072 + i + 1 ≤ 131072 + n) ⊎ (131072 + n + 1 ≤ 131072 + i)
      rest true z = inl (omega (arith, ltb-true i n z))
      rest false z = inr (omega (arith, ltb-false i n z, e))

  at : (i : ℕ) → i < length (numbers bytes') → get_or (numbers bytes') i 0 ≡ get_or (set (numbers bytes) n value) i 0
  at i h = number_at bytes' i h ∙ by (eqb i n) refl
    where
      by : (b : Bool) → eqb i n ≡ b → joined bytes' i ≡ get_or (set (numbers bytes) n value) i 0
      by true z = rw (eqb-true i n z) (here ∙ sym (get_or-set_same (numbers bytes) n value 0 l))
      by false z =
          let e : (i ≡ n → ⊥) = eqb-false i n z in
          beside i (there bytes' i h).few e ∙ sym (number_at bytes i (omega (arith, same_long))) ∙ sym (get_or-set_other (numbers bytes) n i value 0 e)

  pub numbers_put : numbers bytes' ≡ set (numbers bytes) n value
  numbers_put = ext_get_or 0 _ _ (same_long ∙ sym (length-set (numbers bytes) n value)) at

-- ---- all bytes 0

zero_byte : (n x : ℕ) → ◌≡◌ {A = ℕ} (get_or (replicate n 0) x 0) 0
zero_byte zero x = refl
zero_byte (suc n) zero = refl
zero_byte (suc n) (suc x) = zero_byte n x

zero_number : (w n p : ℕ) → number w (replicate n 0) p ≡ 0
unfolding number
zero_number zero n p = refl
zero_number (suc w) n p = rw (zero_number w n p, zero_byte n (p + w)) (omega arith)

pub zeros : (n : ℕ) → n ≡ 196608 → Zeros (replicate n 0)
zeros n e = record {
  long = numbers_long (replicate n 0) ∙ rw (length-replicate {A = ℕ} n 0) (omega arith);
  zero_at = λ i. by i (ltb i (length (numbers (replicate n 0)))) refl;
}
  where
    by : (i : ℕ) (b : Bool) → ltb i (length (numbers (replicate n 0))) ≡ b → ◌≡◌ {A = ℕ} (get_or (numbers (replicate n 0)) i 0) 0
    by i true z = number_at (replicate n 0) i (ltb-true _ _ z) ∙ rw (zero_number 2 n (2 * i), zero_number 1 n (131072 + i)) (omega arith)
    by i false z = get_or-eq_default (numbers (replicate n 0)) 0 (ltb-false _ _ z)
