-- `merged_fluent` meets its contract: the part is cut out of the sheet that the span names. Assumes nothing.
use borrow.Author.Tests.{eq-eqb, ne_eqb}
use mathlib.Core.Path.{◌≡◌, ap, sym, ◌∙◌, subst⁻¹}
use mathlib.Core.Bool.{Bool, true, false, cond}
use mathlib.Core.List.{List}
use Prim.Native.Nat.{ℕ, ◌+◌, ◌-◌, ◌≤◌}
use native.Mathlib.Omega.{arith}
use lib.Dec.{eqb}
use lib.ListN.{length, take, drop}
use Rattle.origin.specs.declared.Part.{Part}
use Rattle.origin.specs.MergedName.{merged_span, part_of_two, address_of_two}
use Rattle.origin.proofs.MergedSpans.{part_within}
use Rattle.origin.proofs.merged_fluent.Goals as goal

-- the span lies in its sheet
within : (s t : List ℕ) (k : ℕ) (r : Part) → r ≡ merged_span s t k → r.at + r.len ≤ length (cond (eqb r.sheet 2) t s)
within s t k r e = subst⁻¹ (λ (p : Part). p.at + p.len ≤ length (cond (eqb p.sheet 2) t s)) e (part_within s t k)

-- a place in one of two sheets is below the larger of their lengths
below : (v : Bool) (x : ℕ) (s t : List ℕ) (n : ℕ) → length s ≤ n → length t ≤ n → x ≤ length (cond v t s) → x ≤ n
below true x s t n h k l = omega arith
below false x s t n h k l = omega arith

pub overflow_add-end : goal.overflow_add-end
overflow_add-end c = omega (arith, below (eqb c.merged_span-name.result.sheet 2) (c.merged_span-name.result.at + c.merged_span-name.result.len) c.args.first.now c.args.second.now 18446744073709551615 (omega arith) (omega arith) (within c.args.first.now c.args.second.now c.args.number c.merged_span-name.result c.merged_span-name.ensures))

pub slice_bounds-result-end : goal.slice_bounds-result-end
slice_bounds-result-end c = rw (eq-eqb c.merged_span-name.result.sheet 2 c.if-name-eq-SECOND.true) at (within c.args.first.now c.args.second.now c.args.number c.merged_span-name.result c.merged_span-name.ensures)

pub returns-then-name-eq-SECOND : goal.returns-then-name-eq-SECOND
returns-then-name-eq-SECOND c =
    let a = c.args in
    let p = c.merged_span-name in
    let r = p.result in
    let v = eq-eqb r.sheet 2 c.if-name-eq-SECOND.true in
    let e : r.at + r.len - r.at ≡ r.len = omega arith in record { result_value = ap (λ (n : ℕ). take n (drop r.at a.second.now)) e ∙ ap (λ (w : Bool). take r.len (drop r.at (cond w a.second.now a.first.now))) (sym v) ∙ ap (part_of_two a.first.now a.second.now) p.ensures; ref_ptr_value = ap (λ (w : Bool). ((cond w a.second.ref_ptr a.first.ref_ptr).0, r.at + (cond w a.second.ref_ptr a.first.ref_ptr).1)) (sym v) ∙ ap (address_of_two a.first.ref_ptr a.second.ref_ptr) p.ensures }

pub slice_bounds-result-end-2 : goal.slice_bounds-result-end-2
slice_bounds-result-end-2 c = rw (ne_eqb c.merged_span-name.result.sheet 2 c.if-name-eq-SECOND.false) at (within c.args.first.now c.args.second.now c.args.number c.merged_span-name.result c.merged_span-name.ensures)

pub returns : goal.returns
returns c =
    let a = c.args in
    let p = c.merged_span-name in
    let r = p.result in
    let v = ne_eqb r.sheet 2 c.if-name-eq-SECOND.false in
    let e : r.at + r.len - r.at ≡ r.len = omega arith in record { result_value = ap (λ (n : ℕ). take n (drop r.at a.first.now)) e ∙ ap (λ (w : Bool). take r.len (drop r.at (cond w a.second.now a.first.now))) (sym v) ∙ ap (part_of_two a.first.now a.second.now) p.ensures; ref_ptr_value = ap (λ (w : Bool). ((cond w a.second.ref_ptr a.first.ref_ptr).0, r.at + (cond w a.second.ref_ptr a.first.ref_ptr).1)) (sym v) ∙ ap (address_of_two a.first.ref_ptr a.second.ref_ptr) p.ensures }
