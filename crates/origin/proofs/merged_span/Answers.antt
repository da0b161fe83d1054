-- `merged_span` meets its contract: nothing for a refused merge or a number too high, else the span in the sheet that brought the name first.
-- Assumes nothing.
use borrow.Author.Tests.{lt-ltb, le-ltb}
use mathlib.Core.Path.{ap, sym, ◌∙◌}
use mathlib.Core.Bool.{Bool, cond}
use mathlib.Core.List.{[], ◌++◌}
use Prim.Native.Nat.{◌+◌, ◌-◌, ◌<◌}
use native.Mathlib.Omega.{arith}
use lib.ListN.{length, get_or}
use Rattle.chars.specs.Places.{place}
use Rattle.sheet.specs.FluentName.{name_span}
use Rattle.parts.specs.Parts.{part_at, parts_from}
use Rattle.parts.proofs.PartLists.{parts_length}
use Rattle.parts.proofs.Founds.{found_or_past}
use Rattle.merge.specs.Joined.{both_books}
use Rattle.origin.specs.MergedName.{part_in}
use Rattle.origin.proofs.MergedSpans.{span_faulty, span_high, span_there}
use Rattle.origin.proofs.SpanParts.{count_all, count_first, name_place}
use Rattle.origin.proofs.merged_span.Goals as goal

pub returns-in_default : goal.returns-in_default
returns-in_default c =
    let a = c.args in
    let f = c.in_default.field-0 in
    sym (span_faulty a.first.now a.second.now a.number f.refusal f.sheet f.line c.in_default.ensures)

pub overflow_sub-f : goal.overflow_sub-f
overflow_sub-f c =
    let J = c.in-Ok.ensures in
    let (i, j, k) = J.fluents.order in
    omega arith

pub returns-then-f-number : goal.returns-then-f-number
returns-then-f-number c =
    let a = c.args in
    let x = c.join in
    let J = c.in-Ok.ensures in
    let n = count_all a.first.now a.second.now x.new.list c.in-Ok.joined J in
    sym (span_high a.first.now a.second.now a.number J.ours J.theirs J.joined (omega (arith, c.if-f-number.true)))

pub overflow_add-i : goal.overflow_add-i
overflow_add-i c =
    let J = c.in-Ok.ensures in
    let (i, j, k) = J.fluents.order in
    let (o, p) = J.ordered.fluents in
    let (q, r) = J.ordered.last in
    omega (arith, c.if-f-number.false)

pub returns-then-i-f : goal.returns-then-i-f
returns-then-i-f c =
    let a = c.args in
    let x = c.join in
    let s = a.first.now in
    let t = a.second.now in
    let J = c.in-Ok.ensures in
    let n = count_all s t x.new.list c.in-Ok.joined J in
    let m = count_first s t x.new.list c.in-Ok.joined J in
    let (i, j, k) = J.fluents.order in
    c.part_in.ensures ∙ ap (part_in 1) c.fluent_span.ensures
    ∙ sym (span_there s t a.number J.ours J.theirs J.joined (omega (arith, c.if-f-number.false))
    ∙ ap (λ (v : Bool). cond v (part_in 1 (name_span s a.number)) (part_in 2 (name_span t (place (get_or (both_books J.ours J.theirs).names.fluents a.number []) J.theirs.names.fluents)))) (lt-ltb a.number (length J.ours.names.fluents) (omega (arith, c.if-i-f.true))))

pub find-requires : goal.find-requires
find-requires c =
    let a = c.args in
    let x = c.join in
    let J = c.in-Ok.ensures in
    let (i, j, k) = J.fluents.order in
    let (o, p) = J.ordered.fluents in
    record { at = J.inside _ (omega (arith, c.if-f-number.false)); inside = λ y h. J.inside y (omega arith); lo_le_hi = i }

pub returns : goal.returns
returns c =
    let a = c.args in
    let x = c.join in
    let s = a.first.now in
    let t = a.second.now in
    let J = c.in-Ok.ensures in
    let n = count_all s t x.new.list c.in-Ok.joined J in
    let m = count_first s t x.new.list c.in-Ok.joined J in
    let (i, j, k) = J.fluents.order in
    let F = c.in-Ok.joined.layout.fluents in
    let seconds = parts_from (s ++ t) x.new.list F.lo (F.own - F.lo) in
    let g = parts_length (s ++ t) x.new.list F.lo (F.own - F.lo) in
    let f = c.unwrap_or-k.ensures ∙ found_or_past (part_at (s ++ t) x.new.list (F.own + a.number)) seconds F.lo c.find.result F.own c.find.ensures (omega arith) in
    let l : a.number < length (both_books J.ours J.theirs).names.fluents = omega (arith, c.if-f-number.false) in
    let e = name_place s t x.new.list c.in-Ok.joined J a.number l in
    c.part_in-2.ensures ∙ ap (part_in 2) (c.fluent_span-2.ensures ∙ ap (name_span t) (omega (arith, f)))
    ∙ sym (span_there s t a.number J.ours J.theirs J.joined l
    ∙ ap (λ (v : Bool). cond v (part_in 1 (name_span s a.number)) (part_in 2 (name_span t (place (get_or (both_books J.ours J.theirs).names.fluents a.number []) J.theirs.names.fluents)))) (le-ltb a.number (length J.ours.names.fluents) (omega (arith, c.if-i-f.false))))
