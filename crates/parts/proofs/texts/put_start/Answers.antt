-- `texts::put_start` meets its contract. Assumes nothing.
use mathlib.Core.Path.{◌≡◌}
use mathlib.Core.List.{List, [], ◌∷◌, ◌++◌}
use Prim.Native.Nat.{ℕ, ◌+◌, ◌-◌}
use native.Mathlib.Omega.{arith}
use lib.ListN.{length, length-append}
use Rattle.chars.specs.Bytes.{text, LF}
use Rattle.writer.proofs.Filling.{gives_then}
use Rattle.parts.specs.Parts.{parts_from, wrapped}
use Rattle.parts.specs.Texts.{start_parts}
use Rattle.parts.proofs.texts.put_start.Goals as goal

-- how long the line is
size : (H : List (List ℕ)) → length (start_parts H) ≡ 6 + length (wrapped [] [] H)
size H =
    let i = length-append (text "start" ++ wrapped [] [] H) (LF ∷ []) in
    let j = length-append (text "start") (wrapped [] [] H) in
    omega arith

pub put-word-requires : goal.put-word-requires
put-word-requires c =
    let a = c.args in
    let n = size (parts_from (a.first.now ++ a.second.now) a.list.now a.lo (a.hi - a.lo)) in
    let p = c.requires.lo_in_bounds in
    omega arith

pub put_all-names-requires : goal.put_all-names-requires
put_all-names-requires c =
    let a = c.args in
    let n = size (parts_from (a.first.now ++ a.second.now) a.list.now a.lo (a.hi - a.lo)) in
    let p = c.requires.lo_in_bounds in
    let x = c.put-word in
    let i = x.ensures.0 in
    let k = x.auto.out in
    record { inside = c.requires.inside; lo_le_hi = c.requires.lo_le_hi; lo_in_bounds = omega arith }

pub put-requires : goal.put-requires
put-requires c =
    let a = c.args in
    let n = size (parts_from (a.first.now ++ a.second.now) a.list.now a.lo (a.hi - a.lo)) in
    let p = c.requires.lo_in_bounds in
    let x = c.put-word in
    let y = c.put_all-names in
    let i = x.ensures.0 in
    let j = y.ensures.0 in
    let k = x.auto.out in
    let l = y.auto.out in
    omega arith

pub returns : goal.returns
returns c =
    let a = c.args in
    let H = parts_from (a.first.now ++ a.second.now) a.list.now a.lo (a.hi - a.lo) in
    let W = wrapped [] [] H in
    let n = size H in
    let x = c.put-word in
    let y = c.put_all-names in
    let z = c.put in
    let i = x.ensures.0 in
    let j = y.ensures.0 in
    let k = z.ensures.0 in
    let o = a.out.now in
    let o₁ = x.new.out in
    let o₂ = y.new.out in
    let o₃ = z.new.out in
    (omega arith, gives_then o o₂ o₃ (text "start" ++ W) (LF ∷ []) a.at y.result z.result (gives_then o o₁ o₂ (text "start") W a.at x.result y.result x.ensures.1 y.ensures.1) z.ensures.1)
