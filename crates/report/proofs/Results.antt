-- What is bad of the result words, and what a pass over them has counted. Assumes nothing.
use Prim.Native.Nat.{ℕ, ◌+◌, ◌*◌, ◌%◌, ◌^◌, ◌<◌, ◌≤◌}
use native.Mathlib.Omega.{arith}
use mathlib.Core.Path.{◌≡◌, refl, sym, ap, ap₂, ◌∙◌}
use mathlib.Core.Logic.{◌≢◌}
use mathlib.Core.Bool.{Bool, true, false, cond, not, ◌||◌}
use mathlib.Core.List.{List}
use lib.Dec.{eqb, ltb}
use lib.ListN.{length, get_or}
use borrow.Author.Tests.{lt-ltb, le-ltb, ltb-false, eq-eqb, ne_eqb, eqb-true, not-false}
use Rattle.steps.specs.Acceptance.{each_below}
use Rattle.steps.proofs.EachBelow.{true_not_false, each_none, each_more, each_at, each_not, each_all}
use Rattle.report.specs.Figures.{sum_below, starts, unrefused, ends_of, runs, all_ends}
use Rattle.report.specs.Report.{bad_starts}
use Rattle.report.proofs.Sums.{sum_none, sum_more, sum_le}

or_true : (t : Bool) → (t || true) ≡ true
or_true true = refl
or_true false = refl

pub or_false : (a b : Bool) → (a || b) ≡ false → (a ≡ false) × (b ≡ false)
or_false true b e = absurd (true_not_false e)
or_false false b e = (refl, e)

-- Of each start: it is refused, or it has at most 65,536 ends.
abbrev pub few : List ℕ → ℕ → Bool
few results i = not (unrefused results i) || not (ltb 65536 (ends_of results i))

-- The first i starts are passed: none of them has too many ends, and the unrefused ones and their ends are counted.
pub record Passed (results : List ℕ) (i n sum : ℕ) : Type 0 where
  pub within : i ≤ starts results
  pub good : each_below i (few results) ≡ true
  pub counted : n ≡ sum_below i (λ i. cond (unrefused results i) 1 0)
  pub summed : sum ≡ sum_below i (λ i. cond (unrefused results i) (ends_of results i) 0)
  pub counted_le : n ≤ i
  pub summed_le : sum ≤ 65536 * i

module _ (results : List ℕ) where
  pub passed_none : Passed results 0 0 0
  passed_none = record {
    within = omega arith;
    good = each_none _;
    counted = sym (sum_none _);
    summed = sym (sum_none _);
    counted_le = omega arith;
    summed_le = omega arith;
  }

  module _ {i n sum : ℕ} (p : Passed results i n sum) (l : i < starts results) where
    -- an unrefused start
    pub passed_run : get_or results (4 * i) 0 ≡ 0 → ends_of results i ≤ 65536 → Passed results (i + 1) (n + 1) (sum + ends_of results i)
    passed_run z le =
        let u : unrefused results i ≡ true = eq-eqb _ _ z in
        record {
          within = omega arith;
          good = each_more _ i p.good (rw (u, le-ltb 65536 (ends_of results i) le) refl);
          counted = ap₂ ◌+◌ p.counted (rw u refl) ∙ sym (sum_more _ i);
          summed = ap₂ ◌+◌ p.summed (rw u refl) ∙ sym (sum_more _ i);
          counted_le = omega (arith, p.counted_le);
          summed_le = omega (arith, p.summed_le);
        }

    -- a refused one
    pub passed_refused : get_or results (4 * i) 0 ≢ 0 → Passed results (i + 1) n sum
    passed_refused nz =
        let u : unrefused results i ≡ false = ne_eqb _ _ nz in
        record {
          within = omega arith;
          good = each_more _ i p.good (rw u refl);
          counted = p.counted ∙ omega (arith, sum_more (λ i. cond (unrefused results i) 1 0) i, ap (λ (t : Bool). cond {A = ℕ} t 1 0) u);
          summed = p.summed ∙ omega (arith, sum_more (λ i. cond (unrefused results i) (ends_of results i) 0) i, ap (λ (t : Bool). cond t (ends_of results i) 0) u);
          counted_le = omega (arith, p.counted_le);
          summed_le = omega (arith, p.summed_le);
        }

  -- ---- what is bad

  module _ (lent : ℕ) where
    pub not_fours : length results % 4 ≢ 0 → bad_starts results lent ≡ true
    unfolding bad_starts
    not_fours nz = rw (ne_eqb (length results % 4) 0 nz) refl

    pub over_1024 : 1024 < starts results → bad_starts results lent ≡ true
    unfolding bad_starts
    over_1024 l = rw (lt-ltb 1024 (starts results) l, or_true) refl

    pub over_65536 : (i : ℕ) → i < starts results → get_or results (4 * i) 0 ≡ 0 → 65536 < ends_of results i → bad_starts results lent ≡ true
    unfolding bad_starts
    over_65536 i l z more =
        let bad : few results i ≡ false = rw (eq-eqb (get_or results (4 * i) 0) 0 z, lt-ltb 65536 (ends_of results i) more) refl in
        rw (each_not (few results) (starts results) i l bad, or_true) refl

    -- all starts are passed: what is left to say is whether their ends are those lent
    pub all_passed : {n sum : ℕ} → length results % 4 ≡ 0 → starts results ≤ 1024 → Passed results (starts results) n sum
        → (not (eqb sum lent) ≡ bad_starts results lent) × (n ≡ runs results)
    unfolding bad_starts
    all_passed z le p = (rw (eq-eqb (length results % 4) 0 z, le-ltb 1024 (starts results) le, p.good, ← p.summed) refl, p.counted)

  -- ---- what is not bad

  at_most : (i : ℕ) → few results i ≡ true → cond (unrefused results i) (ends_of results i) 0 ≤ 65536
  at_most i e = by (unrefused results i) (ltb 65536 (ends_of results i)) refl e
    where
      by : (u t : Bool) → ltb 65536 (ends_of results i) ≡ t → (not u || not t) ≡ true → cond u (ends_of results i) 0 ≤ 65536
      by false t l e = omega arith
      by true true l e = absurd (true_not_false (sym e))
      by true false l e = ltb-false 65536 (ends_of results i) l

  pub record Good (lent : ℕ) : Type 0 where
    pub fours : length results % 4 ≡ 0
    pub starts_le : starts results ≤ 1024
    pub ends_le : (i : ℕ) → i < starts results → cond (unrefused results i) (ends_of results i) 0 ≤ 65536
    pub sums : all_ends results ≡ lent

  pub not_bad : (lent : ℕ) → bad_starts results lent ≡ false → Good lent
  unfolding bad_starts
  not_bad lent e =
      let (rest, sum) = or_false _ _ e in
      let (words, many) = or_false _ _ rest in
      let (fours, over) = or_false _ _ words in
      record {
        fours = eqb-true _ _ (not-false _ fours);
        starts_le = ltb-false _ _ over;
        ends_le = λ i l. at_most i (each_at (few results) (starts results) (not-false _ many) i l);
        sums = eqb-true _ _ (not-false _ sum);
      }

  -- the ends lent are no more than 2 ^ 26
  pub lent_le : (lent : ℕ) → bad_starts results lent ≡ false → lent ≤ 2 ^ 26
  lent_le lent e =
      let good = not_bad lent e in
      let bound = sum_le (starts results) 65536 (λ i. cond (unrefused results i) (ends_of results i) 0) good.ends_le in
      omega (arith, bound, good.sums, good.starts_le)

  -- ---- what makes them good

  pub few_at : (i : ℕ) → (get_or results (4 * i) 0 ≡ 0 → ends_of results i ≤ 65536) → few results i ≡ true
  few_at i le = by (unrefused results i) refl
    where
      by : (u : Bool) → unrefused results i ≡ u → (not u || not (ltb 65536 (ends_of results i))) ≡ true
      by true e = ap not (le-ltb 65536 (ends_of results i) (le (eqb-true _ _ e)))
      by false e = refl

  pub good_starts : (lent : ℕ) → length results % 4 ≡ 0 → starts results ≤ 1024 → ((i : ℕ) → i < starts results → few results i ≡ true)
      → all_ends results ≡ lent → bad_starts results lent ≡ false
  unfolding bad_starts
  good_starts lent z le few_ends sum =
      rw (eq-eqb (length results % 4) 0 z, le-ltb 1024 (starts results) le, each_all (few results) (starts results) few_ends, eq-eqb (all_ends results) lent sum) refl
