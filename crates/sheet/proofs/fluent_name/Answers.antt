-- `fluent_name` meets its contract: the span lies in the sheet, and the part is cut where the span says. Assumes nothing.
use Rattle.std.proofs.Common.{◌≡◌, ◌+◌, ◌-◌, ◌≤◌, ap, ◌∙◌, subst, sym, length, take, drop, arith}
use Rattle.naming.specs.Spans.{part_of, address_of}
use Rattle.sheet.proofs.FluentNames.{span_within}
use Rattle.sheet.proofs.fluent_name.Goals as goal

pub overflow_add-result : goal.overflow_add-result
overflow_add-result c =
    let a = c.args in
    let h = subst (λ x. x.at + x.len ≤ length a.sheet.now) (sym c.fluent_span-name.ensures) (span_within a.sheet.now a.number) in
    omega (arith, h)

pub slice_bounds-result-end : goal.slice_bounds-result-end
slice_bounds-result-end c =
    let a = c.args in
    subst (λ x. x.at + x.len ≤ length a.sheet.now) (sym c.fluent_span-name.ensures) (span_within a.sheet.now a.number)

pub returns : goal.returns
returns c =
    let a = c.args in
    let p = c.fluent_span-name in
    let r = p.result in
    let e : r.at + r.len - r.at ≡ r.len = omega arith in
    let bytes = ap (λ n. take n (drop r.at a.sheet.now)) e ∙ ap (part_of a.sheet.now) p.ensures in
    record { result_value = bytes; ref_ptr_value = ap (address_of a.sheet.ref_ptr) p.ensures }
