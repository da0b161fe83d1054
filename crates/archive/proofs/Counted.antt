-- How many words a count of states has. Assumes nothing.
use Prim.Native.Nat.{ℕ, suc, ◌+◌, ◌*◌, ◌/◌, ◌%◌, ◌<◌}
use native.Mathlib.Nat.{div-add-mod, mul-div_cancel, mul-mod_left, mul-le-mul_left}
use native.Mathlib.Omega.{arith}
use mathlib.Core.Path.{◌≡◌, refl, sym, ap, ◌∙◌}
use mathlib.Core.Bool.{Bool, true, false}
use lib.Dec.{eqb}
use borrow.Author.Tests.{eq-eqb, ne_eqb, eqb-true, eqb-false}
use Rattle.archive.specs.Archive.{blocks}

-- where the last block is not full, its words end the words
pub last_block : (count fluents : ℕ) → 0 < count % 64 → count / 64 * fluents + fluents ≡ blocks count * fluents
last_block count fluents h = let e : blocks count ≡ suc (count / 64) = omega arith in rw e (omega arith)

-- the word of fluent k in the block of state j is one of the words
pub in_words : (count fluents j k : ℕ) → j < count → k < fluents → fluents * (j / 64) + k < blocks count * fluents
in_words count fluents j k l lk =
    let within : j / 64 < blocks count = omega arith in
    omega (arith, mul-le-mul_left {m = suc (j / 64)} {n = blocks count} fluents within)

-- a number that m does not divide is no multiple of it
pub no_multiple : (n m b : ℕ) → (n % m ≡ 0 → ⊥) → eqb n (b * m) ≡ false
no_multiple n m b rest = ne_eqb _ _ (λ e. rest (ap (λ (n : ℕ). n % m) e ∙ mul-mod_left b m))

-- a number that m divides is b times m exactly if its quotient is b
pub multiple : (n m b : ℕ) → 0 < m → n % m ≡ 0 → eqb (n / m) b ≡ eqb n (b * m)
multiple n m b pos whole = by (eqb (n / m) b) refl
  where
    by : (t : Bool) → eqb (n / m) b ≡ t → eqb (n / m) b ≡ eqb n (b * m)
    by true e =
        let q : n / m ≡ b = eqb-true _ _ e in
        e ∙ sym (eq-eqb _ _ (sym (div-add-mod n m) ∙ rw (whole, q) (omega arith)))
    by false e = e ∙ sym (ne_eqb _ _ (λ f. eqb-false _ _ e (ap (λ (n : ℕ). n / m) f ∙ mul-div_cancel b pos)))
