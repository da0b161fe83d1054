-- `texts::put_all` meets its contract. Assumes nothing.
use mathlib.Core.Path.{◌≡◌, refl, sym, ap, ◌∙◌}
use mathlib.Core.List.{List, [], ◌++◌}
use Prim.Native.Nat.{ℕ, ◌+◌, ◌-◌, ◌≤◌}
use native.Mathlib.Omega.{arith}
use lib.ListN.{length, length-append}
use Rattle.writer.proofs.Filling.{gives_none, gives_then, gives_as}
use Rattle.parts.specs.Parts.{part_at, parts_from, wrapped}
use Rattle.parts.proofs.PartLists.{parts_first, parts_none}
use Rattle.parts.proofs.Turns.{wrapped_more, wrapped_none}
use Rattle.parts.proofs.texts.put_all.Goals as goal

-- the first part and the rest
cut : (u list w z : List ℕ) (i hi : ℕ) → i + 1 ≤ hi → wrapped w z (parts_from u list i (hi - i)) ≡ ((w ++ part_at u list i) ++ z) ++ wrapped w z (parts_from u list (i + 1) (hi - (i + 1)))
cut u list w z i hi h = ap (wrapped w z) (parts_first u list i hi (omega arith)) ∙ wrapped_more w z (part_at u list i) (parts_from u list (i + 1) (hi - (i + 1)))

pub loop-i-init : goal.loop-i-init
loop-i-init c = (refl, refl, λ o q g. g)

pub put_one-p-requires : goal.put_one-p-requires
put_one-p-requires c =
    let l = c.loop-i in
    let a = c.args in
    let u = a.first.now ++ a.second.now in
    let z = a.list.now in
    let W = a.word.now in
    let Z = a.end.now in
    let t = c.loop-i-test.true in
    let n = ap length (cut u z W Z l.i a.hi (omega arith)) ∙ length-append ((W ++ part_at u z l.i) ++ Z) (wrapped W Z (parts_from u z (l.i + 1) (a.hi - (l.i + 1)))) in
    let p = c.requires.lo_in_bounds in
    let i = l.invariant.0 in
    let j = l.invariant.1 in
    record { at = c.requires.inside l.i t; end_in_bounds = omega arith }

pub loop-i-preserved : goal.loop-i-preserved
loop-i-preserved c =
    let x = c.put_one-p in
    let l = c.loop-i in
    let a = c.args in
    let u = a.first.now ++ a.second.now in
    let z = a.list.now in
    let W = a.word.now in
    let Z = a.end.now in
    let t = c.loop-i-test.true in
    let P = (W ++ part_at u z l.i) ++ Z in
    let R = wrapped W Z (parts_from u z (l.i + 1) (a.hi - (l.i + 1))) in
    let e = cut u z W Z l.i a.hi (omega arith) in
    let n = ap length e ∙ length-append P R in
    let m = x.ensures.0 in
    let i = l.invariant.0 in (
      omega arith,
      x.auto.out ∙ l.invariant.1,
      λ o q g. l.invariant.2 o q (gives_as l.out o (P ++ R) _ l.p q (sym e) (gives_then l.out x.new.out o P R l.p x.result q x.ensures.1 g)),
    )

pub returns : goal.returns
returns c =
    let l = c.loop-i in
    let a = c.args in
    let u = a.first.now ++ a.second.now in
    let z = a.list.now in
    let W = a.word.now in
    let Z = a.end.now in
    let e = ap (wrapped W Z) (parts_none u z l.i a.hi c.loop-i-test.false) ∙ wrapped_none W Z in
    let n = ap length e in
    let i = l.invariant.0 in
    (omega arith, l.invariant.2 l.out l.p (gives_as l.out l.out [] _ l.p l.p (sym e) (gives_none l.out l.p)))
