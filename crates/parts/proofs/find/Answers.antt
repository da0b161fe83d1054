-- `find` meets its contract. Assumes nothing.
use mathlib.Core.Path.{◌≡◌, refl, sym, ap, ◌∙◌}
use mathlib.Core.Bool.{Bool}
use mathlib.Core.List.{List, ◌++◌}
use Prim.Native.Nat.{ℕ, ◌-◌}
use native.Mathlib.Omega.{arith}
use Rattle.chars.specs.Places.{same}
use Rattle.parts.specs.Parts.{part_at}
use Rattle.parts.proofs.PartLists.{parts_length, found, passed, nowhere}
use Rattle.parts.proofs.find.Goals as goal

pub loop-k-init : goal.loop-k-init
loop-k-init c = refl

pub part_at-y-requires : goal.part_at-y-requires
part_at-y-requires c = c.requires.inside c.loop-k.k c.loop-k-test.true

pub returns-then-same_bytes : goal.returns-then-same_bytes
returns-then-same_bytes c =
    let a = c.args in
    let u = a.first.now ++ a.second.now in
    let z = a.list.now in
    let n = parts_length u z a.lo (a.hi - a.lo) in
    let v = c.loop-k.invariant ∙ found u z (part_at u z a.i) c.loop-k.k a.hi c.loop-k-test.true ((let told : (v : Bool) → c.same_bytes.result ≡ v → same (part_at ((let u : List ℕ = c.args.first.now ++ c.args.second.now in u)) ((let z : List ℕ = c.args.list.now in z)) c.args.i) (part_at ((let u : List ℕ = c.args.first.now ++ c.args.second.now in u)) ((let z : List ℕ = c.args.list.now in z)) c.loop-k.k) ≡ v = (λ v h. ap (λ (x : List ℕ). same x (part_at ((let u : List ℕ = c.args.first.now ++ c.args.second.now in u)) ((let z : List ℕ = c.args.list.now in z)) c.loop-k.k)) (sym c.part_at-x.ensures)
    ∙ ap (λ (x : List ℕ). same c.part_at-x.result.now x) (sym c.part_at-y.ensures) ∙ sym c.same_bytes.ensures ∙ h) in told) _ c.if-same_bytes.true) in
    (sym v, omega arith)

pub loop-k-preserved : goal.loop-k-preserved
loop-k-preserved c =
    let a = c.args in
    let u = a.first.now ++ a.second.now in
    let z = a.list.now in
    c.loop-k.invariant ∙ passed u z (part_at u z a.i) c.loop-k.k a.hi c.loop-k-test.true ((let told : (v : Bool) → c.same_bytes.result ≡ v → same (part_at ((let u : List ℕ = c.args.first.now ++ c.args.second.now in u)) ((let z : List ℕ = c.args.list.now in z)) c.args.i) (part_at ((let u : List ℕ = c.args.first.now ++ c.args.second.now in u)) ((let z : List ℕ = c.args.list.now in z)) c.loop-k.k) ≡ v = (λ v h. ap (λ (x : List ℕ). same x (part_at ((let u : List ℕ = c.args.first.now ++ c.args.second.now in u)) ((let z : List ℕ = c.args.list.now in z)) c.loop-k.k)) (sym c.part_at-x.ensures)
    ∙ ap (λ (x : List ℕ). same c.part_at-x.result.now x) (sym c.part_at-y.ensures) ∙ sym c.same_bytes.ensures ∙ h) in told) _ c.if-same_bytes.false)

pub returns : goal.returns
returns c =
    let a = c.args in
    let u = a.first.now ++ a.second.now in
    let z = a.list.now in
    let e = nowhere u z (part_at u z a.i) c.loop-k.k a.hi c.loop-k-test.false in
    let n = parts_length u z a.lo (a.hi - a.lo) in
    omega (arith, c.loop-k.invariant ∙ e)
