-- A fraction is in lowest terms and equal to the quotient, and no other pair is. Assumes nothing.
use Prim.Native.Nat.{ℕ, ◌*◌, ◌/◌, ◌<◌, ◌∣◌}
use native.Mathlib.Nat.{dvd-mul_left, dvd-mul_right, dvd_antisymm, div-mul_cancel, mul-dvd-mul_right, dvd_of_mul-dvd-mul_right, eq-one_of_dvd-one, eq_of_mul-eq-mul_right, mul_assoc, mul_comm, zero-mul, one-mul, mul-zero}
use native.Mathlib.Omega.{arith}
use mathlib.Core.Path.{◌≡◌, refl, sym, ap, ap₂, subst, ◌∙◌}
use mathlib.Core.Logic.{◌≢◌}
use mathlib.Core.Bool.{Bool, cond}
use mathlib.Core.List.{[], ◌∷◌}
use borrow.Author.Tests.{ne_eqb}
use Rattle.report.specs.Fraction.{euclid, common, fraction, Lowest}
use Rattle.report.proofs.Euclid.{common_left, common_right, common_greatest, common_factor}

-- a * b * c with the last two exchanged
swap : (a b c : ℕ) → a * b * c ≡ a * c * b
swap a b c = mul_assoc a b c ∙ ap (λ (n : ℕ). a * n) (mul_comm b c) ∙ sym (mul_assoc a c b)

-- over nothing
pub over_nothing : (n d : ℕ) → d ≡ 0 → fraction n d ≡ 0 ∷ 0 ∷ []
unfolding fraction
over_nothing n d e = rw e refl

-- over something
pub over : (n d : ℕ) → d ≢ 0 → fraction n d ≡ n / common n d ∷ d / common n d ∷ []
unfolding fraction
over n d ne = ap (λ (t : Bool). cond t (0 ∷ 0 ∷ []) (n / common n d ∷ d / common n d ∷ [])) (ne_eqb d 0 ne)

module _ (n d : ℕ) (ne : d ≢ 0) where
  -- the quotients by the greatest common divisor
  quotients : Lowest n d (n / common n d) (d / common n d)
  quotients =
      let g = common n d in
      let p = n / g in
      let q = d / g in
      let en : p * g ≡ n = div-mul_cancel g (common_left n d) in
      let ed : q * g ≡ d = div-mul_cancel g (common_right n d) in
      let nz : q ≢ 0 = λ z. ne (sym ed ∙ ap (λ (x : ℕ). x * g) z ∙ zero-mul g) in
      let ng : g ≢ 0 = λ z. ne (sym ed ∙ ap (λ (x : ℕ). q * x) z ∙ mul-zero q) in
      let pos : 0 < g = omega arith in
      record {
        exact = ap (λ (x : ℕ). p * x) (sym ed) ∙ sym (mul_assoc p q g) ∙ swap p q g ∙ ap (λ (x : ℕ). x * q) en;
        proper = nz;
        least = λ h hp hq.
            let hn : h * g ∣ n = subst (λ (x : ℕ). h * g ∣ x) en (mul-dvd-mul_right h hp g) in
            let hd : h * g ∣ d = subst (λ (x : ℕ). h * g ∣ x) ed (mul-dvd-mul_right h hq g) in
            let hg : h * g ∣ 1 * g = subst (λ (x : ℕ). h * g ∣ x) (sym (one-mul g)) (common_greatest (h * g) d n d hn hd) in
            eq-one_of_dvd-one (dvd_of_mul-dvd-mul_right h pos hg);
      }

  -- two pairs for one quotient: the one denominator divides the other
  module _ {p q p' q' : ℕ} (a : Lowest n d p q) (b : Lowest n d p' q') where
    cross : p * q' ≡ p' * q
    cross = eq_of_mul-eq-mul_right d (omega arith) (p * q') (p' * q)
        (swap p q' d ∙ ap (λ (x : ℕ). x * q') a.exact ∙ swap n q q' ∙ sym (ap (λ (x : ℕ). x * q) b.exact) ∙ swap p' d q)

    into : q ∣ q'
    into =
        let nz : q' ≢ 0 = b.proper in
        let one : common p q ≡ 1 = a.least (common p q) (common_left p q) (common_right p q) in
        let both : q ∣ euclid q (p * q') (q * q') =
        common_greatest q q (p * q') (q * q') (subst (λ (x : ℕ). q ∣ x) (sym cross) (dvd-mul_left q p')) (dvd-mul_right q q') in
        subst (λ (x : ℕ). q ∣ x) (common_factor q p q q' (omega arith) ∙ ap (λ (x : ℕ). x * q') one ∙ one-mul q') both

  -- The pair is unique, so that the value is no matter of Euclid.
  pub lowest_unique : {p q p' q' : ℕ} → Lowest n d p q → Lowest n d p' q' → (p ≡ p') × (q ≡ q')
  lowest_unique {p} {q} {p'} {q'} a b =
      let e : q ≡ q' = dvd_antisymm (into a b) (into b a) in
      let nz : q ≢ 0 = a.proper in
      (eq_of_mul-eq-mul_right q (omega arith) p p' (subst (λ (x : ℕ). p * x ≡ p' * q) (sym e) (cross a b)), e)

  -- "An exact fraction in lowest terms": its two words are the pair.
  pub lowest : (p q : ℕ) → fraction n d ≡ p ∷ q ∷ [] → Lowest n d p q
  lowest p q e =
      let w : n / common n d ∷ d / common n d ∷ [] ≡ p ∷ q ∷ [] = sym (over n d ne) ∙ e in
      let ep : n / common n d ≡ p = cc in
      let eq : d / common n d ≡ q = cc in
      subst (λ (x : ℕ). Lowest n d x q) ep (subst (λ (x : ℕ). Lowest n d (n / common n d) x) eq quotients)

  -- and every such pair is these two words
  pub lowest_words : (p q : ℕ) → Lowest n d p q → fraction n d ≡ p ∷ q ∷ []
  lowest_words p q l =
      let (ep, eq) = lowest_unique quotients l in
      over n d ne ∙ ap₂ (λ (x y : ℕ). x ∷ y ∷ []) ep eq

-- "0 stands over 1."
pub zero_over_one : (d : ℕ) → d ≢ 0 → fraction 0 d ≡ 0 ∷ 1 ∷ []
zero_over_one d ne = lowest_words 0 d ne 0 1
    (record { exact = omega arith; proper = λ z. omega arith; least = λ g p q. eq-one_of_dvd-one q })
