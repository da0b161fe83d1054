-- `meet` meets its contract. Assumes nothing.
use borrow.Author.Tests.{lt-ltb, le-ltb}
use mathlib.Core.Path.{◌≡◌, refl, sym, ap, ◌∙◌}
use mathlib.Core.Bool.{Bool, true, false, ◌||◌}
use mathlib.Core.List.{List, ◌++◌}
use Prim.Native.Nat.{ℕ, ◌+◌, ◌-◌, ◌≤◌}
use native.Mathlib.Omega.{arith}
use lib.ListN.{length}
use Rattle.chars.specs.Places.{place, among, meets}
use Rattle.parts.specs.Parts.{part_at, parts_from}
use Rattle.parts.proofs.Founds.{found_there, found_not}
use Rattle.parts.proofs.PartLists.{parts_first, parts_none, parts_length}
use Rattle.parts.proofs.meet.Goals as goal

-- the first part and the rest
turn : (u z : List ℕ) (T : List (List ℕ)) (i hi : ℕ) (v : Bool) → i + 1 ≤ hi → among (part_at u z i) T ≡ v → meets (parts_from u z i (hi - i)) T ≡ (v || meets (parts_from u z (i + 1) (hi - (i + 1))) T)
turn u z T i hi v h e = ap (λ (x : List (List ℕ)). meets x T) (parts_first u z i hi (omega arith)) ∙ ap (λ (x : Bool). x || meets (parts_from u z (i + 1) (hi - (i + 1))) T) e

pub loop-i-init : goal.loop-i-init
loop-i-init c = refl

pub find-requires : goal.find-requires
find-requires c = let p = c.requires in record { at = p.inside c.loop-i.i c.loop-i-test.true; inside = p.inside_2; lo_le_hi = p.lo_le_hi.1 }

pub returns-then-is_some : goal.returns-then-is_some
returns-then-is_some c =
    let a = c.args in
    let u = a.first.now ++ a.second.now in
    let z = a.list.now in
    let T = parts_from u z a.from (a.to - a.from) in
    let n = parts_length u z a.from (a.to - a.from) in
    sym (c.loop-i.invariant ∙ turn u z T c.loop-i.i a.hi true (omega (arith, c.loop-i-test.true)) (lt-ltb (place (part_at u z c.loop-i.i) T) (length T) (found_there (part_at u z c.loop-i.i) T a.from c.find.result c.find.ensures (sym c.is_some.ensures ∙ c.if-is_some.true))))

pub loop-i-preserved : goal.loop-i-preserved
loop-i-preserved c =
    let a = c.args in
    let u = a.first.now ++ a.second.now in
    let z = a.list.now in
    let T = parts_from u z a.from (a.to - a.from) in
    let n = parts_length u z a.from (a.to - a.from) in
    let f = found_not (part_at u z c.loop-i.i) T a.from c.find.result c.find.ensures (sym c.is_some.ensures ∙ c.if-is_some.false) in
    c.loop-i.invariant ∙ turn u z T c.loop-i.i a.hi false (omega (arith, c.loop-i-test.true)) (le-ltb (place (part_at u z c.loop-i.i) T) (length T) (omega (arith, f)))

pub returns : goal.returns
returns c =
    let a = c.args in
    let u = a.first.now ++ a.second.now in
    let z = a.list.now in
    sym (c.loop-i.invariant ∙ ap (λ (x : List (List ℕ)). meets x (parts_from u z a.from (a.to - a.from))) (parts_none u z c.loop-i.i a.hi c.loop-i-test.false))
