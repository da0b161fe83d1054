-- What `report` gives and leaves, by the check that is met. Assumes nothing.
use Prim.Native.Nat.{ℕ, ◌+◌, ◌*◌, ◌<◌, ◌≤◌}
use native.Mathlib.Omega.{arith}
use mathlib.Core.Path.{◌≡◌, refl, sym, ap, ap₂, ◌∙◌}
use mathlib.Core.Logic.{◌≢◌}
use mathlib.Core.Bool.{Bool, true, false, cond, not, ◌||◌}
use mathlib.Core.List.{List, ◌++◌}
use lib.Dec.{eqb, ltb}
use lib.ListN.{length, get_or, drop}
use borrow.Author.Tests.{lt-ltb, le-ltb, ne_eqb}
use Rattle.refusals.specs.Run.{run_refusals}
use Rattle.refusals.specs.Class.{class_refusals}
use Rattle.steps.specs.State.{State}
use Rattle.steps.specs.Acceptance.{bad_state}
use Rattle.steps.proofs.EachBelow.{each_all}
use Rattle.report.specs.Fraction.{fraction}
use Rattle.report.specs.Figures.{holding, all_held, runs, fractions, report_of}
use Rattle.report.specs.Report.{bad_starts, bad_ends, refusal, output_after}
use Rattle.report.proofs.Written.{fractions_same}

-- what is written is the report
pub figures_are : (fluents : ℕ) (results : List ℕ) (ends : List State) (counts : List ℕ) (sum n : ℕ)
    → ((k : ℕ) → k < fluents → get_or counts k 0 ≡ holding ends k) → sum ≡ all_held ends → n ≡ runs results
    → fractions fluents (λ k. get_or counts k 0) (length ends) ++ fraction sum (length ends) ++ fraction (length ends) n ≡ report_of fluents results ends
unfolding report_of
figures_are fluents results ends counts sum n c s e =
    let lent = length ends in
    let shares : fractions fluents (λ k. get_or counts k 0) lent ≡ fractions fluents (holding ends) lent = fractions_same fluents (λ k. get_or counts k 0) (holding ends) lent c in
    ap₂ (λ (l : List ℕ) (m : ℕ). l ++ fraction m lent ++ fraction lent n) shares s
    ∙ ap (λ (m : ℕ). fractions fluents (holding ends) lent ++ fraction (all_held ends) lent ++ fraction lent m) e

module _ (fluents : ℕ) (results : List ℕ) (ends : List State) (out : List ℕ) where
  -- refused with r
  abbrev pub Refused : ℕ → Type 0
  Refused r = (r ≡ refusal fluents results ends (length out)) × (out ≡ output_after fluents results ends out)

  refused : (r : ℕ) → r ≢ 0 → r ≡ refusal fluents results ends (length out) → Refused r
  unfolding output_after
  refused r ne e =
      let n : eqb (refusal fluents results ends (length out)) 0 ≡ false = ne_eqb _ 0 (λ z. ne (e ∙ z)) in
      (e, sym (ap (λ (t : Bool). cond t (report_of fluents results ends ++ drop (2 * fluents + 4) out) out) n))

  pub refused_20 : 64 < fluents → Refused run_refusals.bad_counts
  unfolding refusal
  refused_20 l = refused run_refusals.bad_counts (λ z. omega arith) (rw (lt-ltb 64 fluents l) refl)

  module _ (few : fluents ≤ 64) where
    pub refused_26 : (bad_starts results (length ends) || bad_ends fluents ends) ≡ true → Refused class_refusals.bad_results
    unfolding refusal
    refused_26 e = refused class_refusals.bad_results (λ z. omega arith) (rw (le-ltb 64 fluents few, e) refl)

    module _ (good : (bad_starts results (length ends) || bad_ends fluents ends) ≡ false) where
      pub refused_27 : length out < 2 * fluents + 4 → Refused class_refusals.report_short
      unfolding refusal
      refused_27 l = refused class_refusals.report_short (λ z. omega arith) (rw (le-ltb 64 fluents few, good, lt-ltb (length out) (2 * fluents + 4) l) refl)

      none : 2 * fluents + 4 ≤ length out → refusal fluents results ends (length out) ≡ 0
      unfolding refusal
      none l = rw (le-ltb 64 fluents few, good, le-ltb (length out) (2 * fluents + 4) l) refl

      pub unrefused : 2 * fluents + 4 ≤ length out
          → (0 ≡ refusal fluents results ends (length out)) × (report_of fluents results ends ++ drop (2 * fluents + 4) out ≡ output_after fluents results ends out)
      unfolding output_after
      unrefused l =
          let z : refusal fluents results ends (length out) ≡ 0 = none l in
          (sym z, sym (ap (λ (n : ℕ). cond (eqb n 0) (report_of fluents results ends ++ drop (2 * fluents + 4) out) out) z))

-- 26 is not met where neither the results nor the ends are bad
pub never_26 : (fluents : ℕ) (results : List ℕ) (ends : List State) (room : ℕ) → bad_starts results (length ends) ≡ false → bad_ends fluents ends ≡ false
    → refusal fluents results ends room ≢ class_refusals.bad_results
unfolding refusal
never_26 fluents results ends room s e z = by (ltb 64 fluents) (ltb room (2 * fluents + 4)) (rw (s, e) at z)
  where
    by : (a b : Bool) → ◌≡◌ {A = ℕ} (cond a run_refusals.bad_counts (cond b class_refusals.report_short 0)) class_refusals.bad_results → ⊥
    by true b z = omega arith
    by false true z = omega arith
    by false false z = omega arith

-- no end is bad
pub good_ends : (fluents : ℕ) (ends : List State) → ((i : ℕ) → i < length ends → bad_state fluents (get_or ends i 0) ≡ false) → bad_ends fluents ends ≡ false
unfolding bad_ends
good_ends fluents ends good = ap not (each_all _ (length ends) (λ i l. ap not (good i l)))
