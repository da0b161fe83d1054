-- Fractions written one after another. Assumes nothing.
use Prim.Native.Nat.{ℕ, zero, suc, ◌+◌, ◌*◌, ◌/◌, ◌<◌}
use native.Mathlib.Omega.{arith}
use native.Mathlib.Numerals.{add-one}
use mathlib.Core.Path.{◌≡◌, refl, sym, ap, ap₂, ◌∙◌}
use mathlib.Core.Bool.{Bool, true, false, cond}
use mathlib.Core.List.{List, [], ◌∷◌, ◌++◌}
use lib.Dec.{eqb}
use lib.ListN.{length, take, drop, length-append}
use lib.Seq.{take_at, drop-append-add, drop-drop}
use Rattle.report.specs.Fraction.{common, fraction}
use Rattle.report.specs.Figures.{fractions}

pub fraction_length : (n d : ℕ) → length (fraction n d) ≡ 2
unfolding fraction
fraction_length n d = by (eqb d 0)
  where
    by : (t : Bool) → length (cond t (0 ∷ 0 ∷ []) (n / common n d ∷ d / common n d ∷ [])) ≡ 2
    by true = refl
    by false = refl

pub fractions_length : (n : ℕ) (f : ℕ → ℕ) (d : ℕ) → length (fractions n f d) ≡ 2 * n
unfolding fractions
fractions_length zero f d = refl
fractions_length (suc n) f d =
    length-append (fractions n f d) (fraction (f n) d) ∙ omega (arith, fractions_length n f d, fraction_length (f n) d)

-- fractions of the same numbers
pub fractions_same : (n : ℕ) (f g : ℕ → ℕ) (d : ℕ) → ((k : ℕ) → k < n → f k ≡ g k) → fractions n f d ≡ fractions n g d
unfolding fractions
fractions_same zero f g d same = refl
fractions_same (suc n) f g d same =
    ap₂ (λ (l : List ℕ) (x : ℕ). l ++ fraction x d) (fractions_same n f g d (λ k l. same k (omega arith))) (same n (omega arith))

-- two words more, past those written
pub two_more : (written two out : List ℕ) (at : ℕ) → length written ≡ at
    → take at (written ++ drop at out) ++ two ++ drop (at + 2) (written ++ drop at out) ≡ written ++ two ++ drop (at + 2) out
two_more written two out at e =
    ap₂ (λ (l r : List ℕ). l ++ two ++ r) (take_at written (drop at out) at e) past
  where
    past : drop (at + 2) (written ++ drop at out) ≡ drop (at + 2) out
    past = ap (λ (n : ℕ). drop (n + 2) (written ++ drop at out)) (sym e) ∙ drop-append-add written (drop at out) 2 ∙ drop-drop 2 at out

-- ---- in a loop

pub fractions_none : (f : ℕ → ℕ) (d : ℕ) (out : List ℕ) → out ≡ fractions 0 f d ++ drop (2 * 0) out
unfolding fractions
fractions_none f d out = refl

pub fractions_more : (k : ℕ) (f : ℕ → ℕ) (d : ℕ) (out now : List ℕ) → now ≡ fractions k f d ++ drop (2 * k) out
    → take (2 * k) now ++ fraction (f k) d ++ drop (2 * k + 2) now ≡ fractions (k + 1) f d ++ drop (2 * (k + 1)) out
unfolding fractions
fractions_more k f d out now e =
    let more : fractions k f d ++ fraction (f k) d ≡ fractions (k + 1) f d = rw (add-one k) refl in
    let past : 2 * k + 2 ≡ 2 * (k + 1) = omega arith in
    ap (λ (l : List ℕ). take (2 * k) l ++ fraction (f k) d ++ drop (2 * k + 2) l) e
    ∙ two_more (fractions k f d) (fraction (f k) d) out (2 * k) (fractions_length k f d)
    ∙ ap₂ (λ (l : List ℕ) (n : ℕ). l ++ drop n out) more past

-- ---- the figures, one after another: the shares, and each mean past what stands before it

pub figures_written : (n : ℕ) (f : ℕ → ℕ) (sum lent runs : ℕ) (out shares mean both : List ℕ)
    → shares ≡ fractions n f lent ++ drop (2 * n) out
    → mean ≡ take (2 * n) shares ++ fraction sum lent ++ drop (2 * n + 2) shares
    → both ≡ take (2 * n + 2) mean ++ fraction lent runs ++ drop (2 * n + 2 + 2) mean
    → both ≡ fractions n f lent ++ fraction sum lent ++ fraction lent runs ++ drop (2 * n + 4) out
figures_written n f sum lent runs out shares mean both s m b =
    let first = fractions n f lent in
    let second = first ++ fraction sum lent in
    let long : length second ≡ 2 * n + 2 = length-append first (fraction sum lent) ∙ omega (arith, fractions_length n f lent, fraction_length sum lent) in
    let mean_is : mean ≡ second ++ drop (2 * n + 2) out =
    m ∙ ap (λ (l : List ℕ). take (2 * n) l ++ fraction sum lent ++ drop (2 * n + 2) l) s
    ∙ two_more first (fraction sum lent) out (2 * n) (fractions_length n f lent) in
    let past : 2 * n + 2 + 2 ≡ 2 * n + 4 = omega arith in
    b ∙ ap (λ (l : List ℕ). take (2 * n + 2) l ++ fraction lent runs ++ drop (2 * n + 2 + 2) l) mean_is
    ∙ two_more second (fraction lent runs) out (2 * n + 2) long
    ∙ ap (λ (k : ℕ). second ++ fraction lent runs ++ drop k out) past
