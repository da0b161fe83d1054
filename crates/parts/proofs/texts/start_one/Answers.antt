-- `texts::start_one` meets its contract. Assumes nothing.
use mathlib.Core.Path.{◌≡◌, sym, ap, ◌∙◌}
use mathlib.Core.Bool.{Bool, cond}
use mathlib.Core.List.{◌++◌}
use Prim.Native.Nat.{◌-◌}
use native.Mathlib.Omega.{arith}
use Rattle.steps.specs.Inner.{inserted}
use Rattle.chars.specs.Places.{place}
use Rattle.parts.specs.Parts.{part_at, parts_from}
use Rattle.parts.proofs.Founds.{found_or_past}
use Rattle.parts.proofs.PartLists.{parts_length}
use Rattle.parts.proofs.texts.start_one.Goals as goal

pub overflow_sub-p : goal.overflow_sub-p
overflow_sub-p c =
    let a = c.args in
    let u = a.first.now ++ a.second.now in
    let xs = parts_from u a.list.now a.lo (a.hi - a.lo) in
    let n = parts_length u a.list.now a.lo (a.hi - a.lo) in
    let f = c.unwrap_or-p.ensures ∙ found_or_past (part_at u a.list.now a.i) xs a.lo c.find.result a.hi c.find.ensures (omega arith) in
    omega (arith, f)

pub returns-then-holds : goal.returns-then-holds
returns-then-holds c =
    let a = c.args in
    let u = a.first.now ++ a.second.now in
    let z = a.list.now in
    let h = sym c.holds.ensures ∙ c.if-holds.true in
    let n = parts_length u z a.lo (a.hi - a.lo) in
    let f = c.unwrap_or-p.ensures ∙ found_or_past (part_at u z a.i) (parts_from u z a.lo (a.hi - a.lo)) a.lo c.find.result a.hi c.find.ensures (omega arith) in
    let p = place (part_at u z a.i) (parts_from u z a.lo (a.hi - a.lo)) in
    let e : c.unwrap_or-p.result - a.lo ≡ p = omega (arith, f) in
    c.insert.ensures ∙ ap (inserted a.to.0) e ∙ sym (ap (λ (v : Bool). cond v (inserted a.to.0 p) a.to.0) h)

pub returns : goal.returns
returns c =
    let a = c.args in
    let u = a.first.now ++ a.second.now in
    let z = a.list.now in
    let h = sym c.holds.ensures ∙ c.if-holds.false in
    sym (ap (λ (v : Bool). cond v (inserted a.to.0 (place (part_at u z a.i) (parts_from u z a.lo (a.hi - a.lo)))) a.to.0) h)
