use Prim.Native.Nat.{ℕ, ◌+◌, ◌-◌, ◌/◌, ◌^◌, ◌<◌, ◌≤◌}
use native.Mathlib.Omega.{arith}
use mathlib.Core.Path.{◌≡◌, refl, sym, ap, ap₂, ◌∙◌}
use mathlib.Core.Bool.{Bool, true, false, not}
use mathlib.Core.Logic.{◌≢◌}
use lib.Count.{ones, ones-le}
use lib.ListN.{length, get_or}
use borrow.Author.Rules.{rules}
use borrow.Author.Tests.{eq-eqb, ne_eqb}
use Rattle.steps.specs.State.{bit}
use Rattle.steps.specs.Acceptance.{each_below, bad_state}
use Rattle.steps.proofs.EachBelow.{true_not_false, each_none, each_more, each_not}
use Rattle.report.specs.Figures.{sum_below, held}
use Rattle.report.specs.Report.{bad_ends}
use Rattle.report.proofs.Sums.{sum_none, sum_more}
use Rattle.report.proofs.Ones.{ones_sum, holding_le, all_held_le}
use Rattle.report.proofs.tally.Goals as goal

-- whether an end is bad is seen from its bits at or above the fluent count
bad_at : (fluents s rest : ℕ) → rest ≡ s / 2 ^ fluents → rest ≢ 0 → not (bad_state fluents s) ≡ false
unfolding bad_state
bad_at fluents s rest e ne = ap (λ (t : Bool). not (not t)) (ne_eqb _ 0 (λ z. ne (e ∙ z)))

good_at : (fluents s rest : ℕ) → rest ≡ s / 2 ^ fluents → rest ≡ 0 → not (bad_state fluents s) ≡ true
unfolding bad_state
good_at fluents s rest e z = ap (λ (t : Bool). not (not t)) (eq-eqb _ 0 (sym e ∙ z))

pub loop-end-init : goal.loop-end-init
loop-end-init c = record { good = each_none _; summed = sym (sum_none _); counted = λ k l. c.requires.3 k (omega arith) ∙ sym (sum_none _) }

pub count_end-requires : goal.count_end-requires
count_end-requires c =
    let now = c.loop-end in
    (omega arith, (λ k l. omega (arith, now.invariant.counted k l, holding_le c.args.ends.now now.end-index k)))

pub returns-then-count_end-ne0 : goal.returns-then-count_end-ne0
unfolding bad_ends
returns-then-count_end-ne0 c =
    let a = c.args in
    let i = c.loop-end.end-index in
    (ap not (each_not _ _ _ (omega arith) (bad_at a.fluents (get_or a.ends.now i 0) _ c.count_end.ensures.0 c.if-count_end-ne0.true)), refl)

pub overflow_add-sum : goal.overflow_add-sum
overflow_add-sum c =
    let ends = c.args.ends.now in
    let i = c.loop-end.end-index in
    omega (arith, c.loop-end.invariant.summed, all_held_le ends i, ones-le 64 (get_or ends i 0) (c.type_inv.ends i).fits)

pub loop-end-preserved : goal.loop-end-preserved
loop-end-preserved c =
    let a = c.args in
    let i = c.loop-end.end-index in
    let s = get_or a.ends.now i 0 in
    let more : c.from-sum.result ≡ ones s = search rules in
    record {
      good = each_more _ _ c.loop-end.invariant.good (good_at a.fluents s _ c.count_end.ensures.0 c.if-count_end-ne0.false);
      summed = ap₂ ◌+◌ c.loop-end.invariant.summed (more ∙ ones_sum 64 s (c.type_inv.ends i).fits) ∙ sym (sum_more _ i);
      counted = λ k h. c.count_end.ensures.1 k h ∙ ap (λ (n : ℕ). n + bit s k) (c.loop-end.invariant.counted k h) ∙ sym (sum_more _ i);
    }

pub returns : goal.returns
unfolding bad_ends
returns c =
    let a = c.args in
    let now = c.loop-end in
    let e : now.end-index ≡ length a.ends.now = omega arith in (
      ap not (rw e at now.invariant.good),
      now.invariant.summed ∙ ap (λ (n : ℕ). sum_below n (λ i. held (get_or a.ends.now i 0))) e,
      (λ k h. now.invariant.counted k h ∙ ap (λ (n : ℕ). sum_below n (λ i. bit (get_or a.ends.now i 0) k)) e),
    )
