-- Words that are 0: the test and what it says. Assumes nothing.
use Prim.Native.Nat.{ℕ, zero, suc, ◌+◌, ◌-◌, ◌<◌, ◌≤◌}
use native.Mathlib.Omega.{arith}
use native.Mathlib.Decide.{dec_lt}
use mathlib.Core.Path.{◌≡◌, refl, sym, ap, subst, ◌∙◌}
use mathlib.Core.Bool.{Bool, true, false}
use mathlib.Core.List.{List}
use lib.ListN.{length, get_or, take, drop, get_or-eq_default}
use lib.Dec.{eqb}
use Rattle.std.specs.Bool.{Decides}
use Rattle.std.proofs.lemmas.List.{get_or-take, get_or-drop}
use borrow.Author.Tests.{eqb-true, eq-eqb}
use Rattle.steps.specs.Acceptance.{each_below}
use Rattle.steps.proofs.EachBelow.{each_at, each_all}
use Rattle.checks.specs.Checks.{clear_between, clear_past}

-- a test that holds exactly where each of the first n does
pub each_tested : (b : Bool) (p : ℕ → Bool) (n : ℕ) → Decides b ((i : ℕ) → i < n → p i ≡ true) → b ≡ each_below n p
each_tested true p n d = sym (each_all p n (d.0 refl))
each_tested false p n d = by (each_below n p) refl
  where
    by : (t : Bool) → each_below n p ≡ t → false ≡ each_below n p
    by true e = d.1 (each_at p n e) ∙ sym e
    by false e = sym e

-- a test that all words from one place on and below another are 0
pub window_clear : (words : List ℕ) (from to : ℕ) (b : Bool) → Decides b ((i : ℕ) → i < to - from → get_or (take (to - from) (drop from words)) i 0 ≡ 0)
    → b ≡ clear_between words from to
unfolding clear_between
window_clear words from to b d = each_tested b _ (to - from) (
  λ e i l. eq-eqb _ 0 (sym (at i l) ∙ d.0 e i l),
  λ all. d.1 (λ i l. at i l ∙ eqb-true _ 0 (all i l)),
)
  where
    at : (i : ℕ) → i < to - from → get_or (take (to - from) (drop from words)) i 0 ≡ get_or words (from + i) 0
    at i l = get_or-take (to - from) (drop from words) i 0 l ∙ get_or-drop from words i 0

-- tests that agree at each number
pub each_same : (p r : ℕ → Bool) (n : ℕ) → ((i : ℕ) → p i ≡ r i) → each_below n p ≡ each_below n r
unfolding each_below
each_same p r zero e = refl
each_same p r (suc n) e = rw (each_same p r n e, e n) refl

-- the evidence words from place q on, of a record whose evidence begins at a place
pub evidence_clear : (words : List ℕ) (at q : ℕ) → clear_between words (at + q) (at + 16) ≡ each_below (16 - q) (λ i. eqb (get_or words (at + (q + i)) 0) 0)
unfolding clear_between
evidence_clear words at q =
    let long : at + 16 - (at + q) ≡ 16 - q = omega arith in
    rw long (each_same _ _ (16 - q) (λ i. (let same : at + q + i ≡ at + (q + i) = omega arith in ap (λ (j : ℕ). eqb (get_or words j 0) 0) same)))

-- words past a place that are clear are 0, those past the table too
pub clear_out : (words : List ℕ) (from : ℕ) → clear_past words from ≡ true → (i : ℕ) → from ≤ i → get_or words i 0 ≡ 0
unfolding clear_between
clear_out words from e i l = elim (dec_lt i (length words)) [
  | yes k ↦ (let same : from + (i - from) ≡ i = omega arith in
      subst (λ (j : ℕ). get_or words j 0 ≡ 0) same (eqb-true _ 0 (each_at (λ i. eqb (get_or words (from + i) 0) 0) (length words - from) e (i - from) (omega arith))))
  | no k ↦ get_or-eq_default words 0 (omega arith)
]

pub clear_in : (words : List ℕ) (from : ℕ) → ((i : ℕ) → from ≤ i → get_or words i 0 ≡ 0) → clear_past words from ≡ true
unfolding clear_between
clear_in words from z = each_all (λ i. eqb (get_or words (from + i) 0) 0) (length words - from) (λ i l. eq-eqb _ 0 (z (from + i) (omega arith)))
