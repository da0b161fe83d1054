-- `texts::size` meets its contract. Assumes nothing.
use mathlib.Core.Path.{ap, ◌∙◌}
use mathlib.Core.List.{List, ◌++◌}
use Prim.Native.Nat.{ℕ, ◌+◌, ◌-◌, ◌≤◌}
use native.Mathlib.Omega.{arith}
use lib.ListN.{length}
use Rattle.parts.specs.Parts.{part_at, parts_from, wrapped}
use Rattle.parts.proofs.PartLists.{parts_first, parts_none}
use Rattle.parts.proofs.Turns.{wrapped_size, wrapped_none, part_short}
use Rattle.parts.proofs.texts.size.Goals as goal

pub loop-i-init : goal.loop-i-init
loop-i-init c = (omega arith, λ w z h. omega arith)

pub part_at-p-requires : goal.part_at-p-requires
part_at-p-requires c = c.requires.inside c.loop-i.i c.loop-i-test.true

pub overflow_add-n : goal.overflow_add-n
overflow_add-n c =
    let s = (let short : length c.part_at-p.result.now ≤ 131072 = let a = c.args in
    let u = a.first.now ++ a.second.now in
    let n = ap length c.part_at-p.ensures in
    let s = part_short (length a.first.now) u a.list.now c.loop-i.i (c.requires.inside c.loop-i.i c.loop-i-test.true) in
    let k = c.requires.lo_le_hi.3 in
    omega arith in short) in let k = c.requires.lo_le_hi.2 in omega arith

pub overflow_add-n-in-loop-i : goal.overflow_add-n-in-loop-i
overflow_add-n-in-loop-i c =
    let s = (let short : length c.part_at-p.result.now ≤ 131072 = let a = c.args in
    let u = a.first.now ++ a.second.now in
    let n = ap length c.part_at-p.ensures in
    let s = part_short (length a.first.now) u a.list.now c.loop-i.i (c.requires.inside c.loop-i.i c.loop-i-test.true) in
    let k = c.requires.lo_le_hi.3 in
    omega arith in short) in let p = c.requires.lo_le_hi in let h = p.1 in let k = p.2 in let m = c.loop-i.invariant.0 in let t = c.loop-i-test.true in omega arith

pub loop-i-preserved : goal.loop-i-preserved
loop-i-preserved c =
    let l = c.loop-i in
    let a = c.args in
    let u = a.first.now ++ a.second.now in
    let z = a.list.now in
    let s = (let short : length c.part_at-p.result.now ≤ 131072 = let a = c.args in
    let u = a.first.now ++ a.second.now in
    let n = ap length c.part_at-p.ensures in
    let s = part_short (length a.first.now) u a.list.now c.loop-i.i (c.requires.inside c.loop-i.i c.loop-i-test.true) in
    let k = c.requires.lo_le_hi.3 in
    omega arith in short) in
    let k = c.requires.lo_le_hi.2 in
    let m = l.invariant.0 in
    let t = c.loop-i-test.true in
    let e = ap length c.part_at-p.ensures in (
      omega arith,
      λ w x h.
          let i = l.invariant.1 w x h in
          let f = ap (λ (y : List (List ℕ)). length (wrapped w x y)) (parts_first u z l.i a.hi t) ∙ wrapped_size w x (part_at u z l.i) (parts_from u z (l.i + 1) (a.hi - (l.i + 1))) in
          omega arith,
    )

pub returns : goal.returns
returns c =
    let l = c.loop-i in
    let a = c.args in
    let u = a.first.now ++ a.second.now in
    let z = a.list.now in
    let m = l.invariant.0 in
    record {
      by_index = λ w x h.
          let i = l.invariant.1 w x h in
          let f = ap (λ (y : List (List ℕ)). length (wrapped w x y)) (parts_none u z l.i a.hi c.loop-i-test.false) ∙ ap length (wrapped_none w x) in
          omega arith;
      upper_bound = omega arith;
    }
