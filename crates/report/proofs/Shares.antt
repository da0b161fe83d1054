-- What an unrefused report says: the shares add up to the mean, and where each figure stands. Assumes nothing.
use Prim.Native.Nat.{ℕ, zero, suc, ◌+◌, ◌*◌, ◌/◌, ◌^◌, ◌<◌, ◌≤◌}
use native.Mathlib.Nat.{mod-lt}
use native.Mathlib.Omega.{arith}
use native.Mathlib.Decide.{dec_lt}
use mathlib.Core.Path.{◌≡◌, refl, sym, ap, ◌∙◌}
use mathlib.Core.Bool.{Bool, true, false, cond, ◌||◌}
use mathlib.Core.List.{List, ◌++◌, append_assoc}
use lib.Dec.{ltb}
use lib.ListN.{length, get_or, take, drop, length-append}
use lib.Pow.{split, pow_pos, pow_mono}
use lib.Seq.{take_at, drop_at}
use borrow.Author.Tests.{eqb-true, ltb-false, not-true, not-false}
use Rattle.refusals.specs.Run.{run_refusals}
use Rattle.refusals.specs.Class.{class_refusals}
use Rattle.steps.specs.State.{State, bit}
use Rattle.steps.specs.Acceptance.{bad_state}
use Rattle.steps.proofs.EachBelow.{each_at}
use Rattle.report.specs.Fraction.{fraction}
use Rattle.report.specs.Figures.{sum_below, holding, held, all_held, runs, fractions, report_of}
use Rattle.report.specs.Report.{bad_starts, bad_ends, refusal}
use Rattle.report.proofs.Sums.{sum_same, sum_swap}
use Rattle.report.proofs.Ones.{ones_sum}
use Rattle.report.proofs.Results.{or_false}
use Rattle.report.proofs.Written.{fraction_length, fractions_length}

-- ---- what is not refused

pass : (t : Bool) (k n : ℕ) → 0 < k → cond t k n ≡ 0 → (t ≡ false) × (n ≡ 0)
pass true k n p e = absurd (omega arith)
pass false k n p e = (refl, e)

below : (fluents s : ℕ) → bad_state fluents s ≡ false → s < 2 ^ fluents
unfolding bad_state
below fluents s e =
    let z : s / 2 ^ fluents ≡ 0 = eqb-true _ _ (not-false _ e) in
    omega (arith, rw z at (split s fluents), mod-lt s (pow_pos fluents))

pub ends_below : (fluents : ℕ) (ends : List State) → bad_ends fluents ends ≡ false → (i : ℕ) → i < length ends → get_or ends i 0 < 2 ^ fluents
unfolding bad_ends
ends_below fluents ends e i l = below fluents _ (not-true _ (each_at _ (length ends) (not-false _ e) i l))

module _ (fluents : ℕ) (results : List ℕ) (ends : List State) (room : ℕ) where
  pub unrefused_then : refusal fluents results ends room ≡ 0
      → (fluents ≤ 64) × (bad_starts results (length ends) ≡ false) × (bad_ends fluents ends ≡ false) × (2 * fluents + 4 ≤ room)
  unfolding refusal
  unrefused_then e =
      let p20 = pass (ltb 64 fluents) run_refusals.bad_counts _ (omega arith) e in
      let p26 = pass (bad_starts results (length ends) || bad_ends fluents ends) class_refusals.bad_results _ (omega arith) p20.1 in
      let p27 = pass (ltb room (2 * fluents + 4)) class_refusals.report_short 0 (omega arith) p26.1 in
      let (starts, good) = or_false _ _ p26.0 in
      (ltb-false _ _ p20.0, starts, good, ltb-false _ _ p27.0)

-- ---- the mean is the shares' sum

-- a state without bits from w on holds as many fluents below w as below 64
held_below : (w s : ℕ) → w ≤ 64 → s < 2 ^ w → sum_below w (bit s) ≡ held s
held_below w s l h = sym (ones_sum w s h) ∙ ones_sum 64 s (omega (arith, pow_mono l))

-- The shares' numerators before reduction add up to the mean's.
pub shares_sum : (fluents : ℕ) (results : List ℕ) (ends : List State) (room : ℕ) → refusal fluents results ends room ≡ 0
    → sum_below fluents (holding ends) ≡ all_held ends
shares_sum fluents results ends room e =
    let (few, _, good, _) = unrefused_then fluents results ends room e in
    sum_swap fluents (length ends) (λ k i. bit (get_or ends i 0) k)
    ∙ sum_same (length ends) (λ i. sum_below fluents (bit (get_or ends i 0))) (λ i. held (get_or ends i 0))
    (λ i l. held_below fluents (get_or ends i 0) few (ends_below fluents ends good i l))

-- ---- where each figure stands

-- fraction k of n stands in words 2 k and 2 k + 1
fraction_at : (n : ℕ) (f : ℕ → ℕ) (d : ℕ) (past : List ℕ) (k : ℕ) → k < n → take 2 (drop (2 * k) (fractions n f d ++ past)) ≡ fraction (f k) d
unfolding fractions
fraction_at zero f d past k l = absurd (omega arith)
fraction_at (suc n) f d past k l =
    ap (λ (l : List ℕ). take 2 (drop (2 * k) l)) (append_assoc (fractions n f d) (fraction (f n) d) past) ∙ by (dec_lt k n) (fraction_at n f d (fraction (f n) d ++ past) k)
  where
    by : Dec (k < n) → (k < n → take 2 (drop (2 * k) (fractions n f d ++ (fraction (f n) d ++ past))) ≡ fraction (f k) d)
        → take 2 (drop (2 * k) (fractions n f d ++ (fraction (f n) d ++ past))) ≡ fraction (f k) d
    by (yes h) earlier = earlier h
    by (no h) earlier =
        let e : n ≡ k = omega arith in
        let long : length (fractions n f d) ≡ 2 * k = fractions_length n f d ∙ ap (λ (n : ℕ). 2 * n) e in
        ap (take 2) (drop_at (fractions n f d) (fraction (f n) d ++ past) (2 * k) long)
        ∙ take_at (fraction (f n) d) past 2 (fraction_length (f n) d) ∙ ap (λ (n : ℕ). fraction (f n) d) e

module _ (fluents : ℕ) (results : List ℕ) (ends : List State) where
  pub report_length : length (report_of fluents results ends) ≡ 2 * fluents + 4
  unfolding report_of
  report_length =
      let shares = fractions fluents (holding ends) (length ends) in
      let mean = fraction (all_held ends) (length ends) in
      length-append (shares ++ mean) (fraction (length ends) (runs results))
      ∙ omega (arith, length-append shares mean, fractions_length fluents (holding ends) (length ends), fraction_length (all_held ends) (length ends), fraction_length (length ends) (runs results))

  -- "the fluents in order first"
  pub share_at : (k : ℕ) → k < fluents → take 2 (drop (2 * k) (report_of fluents results ends)) ≡ fraction (holding ends k) (length ends)
  unfolding report_of
  share_at k l =
      let shares = fractions fluents (holding ends) (length ends) in
      ap (λ (w : List ℕ). take 2 (drop (2 * k) w)) (append_assoc shares (fraction (all_held ends) (length ends)) (fraction (length ends) (runs results)))
      ∙ fraction_at fluents (holding ends) (length ends) _ k l

  -- "and then the two means"
  pub mean_held_at : take 2 (drop (2 * fluents) (report_of fluents results ends)) ≡ fraction (all_held ends) (length ends)
  unfolding report_of
  mean_held_at =
      let shares = fractions fluents (holding ends) (length ends) in
      let mean = fraction (all_held ends) (length ends) in
      ap (λ (w : List ℕ). take 2 (drop (2 * fluents) w)) (append_assoc shares mean (fraction (length ends) (runs results)))
      ∙ ap (take 2) (drop_at shares (mean ++ fraction (length ends) (runs results)) (2 * fluents) (fractions_length fluents (holding ends) (length ends)))
      ∙ take_at mean (fraction (length ends) (runs results)) 2 (fraction_length (all_held ends) (length ends))

  pub mean_ends_at : drop (2 * fluents + 2) (report_of fluents results ends) ≡ fraction (length ends) (runs results)
  unfolding report_of
  mean_ends_at =
      let shares = fractions fluents (holding ends) (length ends) in
      let mean = fraction (all_held ends) (length ends) in
      let long : length (shares ++ mean) ≡ 2 * fluents + 2 =
      length-append shares mean ∙ omega (arith, fractions_length fluents (holding ends) (length ends), fraction_length (all_held ends) (length ends)) in
      drop_at (shares ++ mean) (fraction (length ends) (runs results)) (2 * fluents + 2) long
