-- `texts::put_one` meets its contract: a word, the part, a word. Assumes nothing.
use mathlib.Core.Path.{◌≡◌, ap, ◌∙◌}
use mathlib.Core.List.{List, ◌++◌}
use Prim.Native.Nat.{ℕ, ◌+◌}
use native.Mathlib.Omega.{arith}
use lib.ListN.{length, length-append}
use Rattle.parts.specs.Parts.{part_at}
use Rattle.writer.proofs.Filling.{gives_then, gives_as}
use Rattle.parts.proofs.texts.put_one.Goals as goal

-- how long the three are
sizes : (w p z : List ℕ) → length ((w ++ p) ++ z) ≡ length w + length p + length z
sizes w p z = let a = length-append (w ++ p) z in let b = length-append w p in omega arith

pub put-a-requires : goal.put-a-requires
put-a-requires c =
    let a = c.args in
    let s = sizes a.word.now (part_at (a.first.now ++ a.second.now) a.list.now a.i) a.end.now in
    let p = c.requires.end_in_bounds in
    omega arith

pub put-b-requires : goal.put-b-requires
put-b-requires c =
    let a = c.args in
    let s = sizes a.word.now (part_at (a.first.now ++ a.second.now) a.list.now a.i) a.end.now in
    let p = c.requires.end_in_bounds in
    let x = c.put-a in
    let n = x.ensures.0 in
    let q = ap length c.part_at-p.ensures in
    let k = x.auto.out in
    omega arith

pub put-requires : goal.put-requires
put-requires c =
    let a = c.args in
    let s = sizes a.word.now (part_at (a.first.now ++ a.second.now) a.list.now a.i) a.end.now in
    let p = c.requires.end_in_bounds in
    let x = c.put-a in
    let y = c.put-b in
    let n = x.ensures.0 in
    let m = y.ensures.0 in
    let q = ap length c.part_at-p.ensures in
    let k = x.auto.out in
    let j = y.auto.out in
    omega arith

pub returns : goal.returns
returns c =
    let a = c.args in
    let P = part_at (a.first.now ++ a.second.now) a.list.now a.i in
    let W = a.word.now in
    let Z = a.end.now in
    let s = sizes W P Z in
    let x = c.put-a in
    let y = c.put-b in
    let z = c.put in
    let n = x.ensures.0 in
    let m = y.ensures.0 in
    let o = z.ensures.0 in
    let p = c.part_at-p.ensures in
    let q = ap length p in
    let o₀ = a.out.now in (
      omega arith,
      gives_then o₀ y.new.out z.new.out (W ++ P) Z a.at y.result z.result
          (gives_then o₀ x.new.out y.new.out W P a.at x.result y.result x.ensures.1 (gives_as x.new.out y.new.out _ P x.result y.result p y.ensures.1))
          z.ensures.1,
    )
