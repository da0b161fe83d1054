-- `put_lines` meets its contract. Assumes nothing.
use mathlib.Core.Path.{◌≡◌, refl, ap, sym, ◌∙◌}
use mathlib.Core.List.{List, [], ◌∷◌, ◌++◌}
use Prim.Native.Nat.{ℕ, ◌+◌}
use native.Mathlib.Omega.{arith}
use lib.ListN.{length, drop, length-append}
use lib.Seq.{slice}
use Rattle.chars.specs.Pieces.{lines}
use Rattle.chars.proofs.Ends.{lines_gone}
use Rattle.writer.specs.Inner.{line_piece, line_bytes}
use Rattle.writer.proofs.Filling.{gives_none, gives_then, gives_as}
use Rattle.writer.proofs.LinePieces.{line_more, line_none}
use Rattle.writer.proofs.put_lines.Goals as goal

-- the bytes from a line on, by the line
cut : (st : ℕ) (all : List (List ℕ)) (l : List ℕ) (ls ms : List (List ℕ)) → ms ≡ l ∷ ls → line_bytes st all ms ≡ line_piece st all l ++ line_bytes st all ls
cut st all l ls ms e = ap (line_bytes st all) e ∙ line_more st all l ls

pub loop-a-init : goal.loop-a-init
loop-a-init c = (omega arith, omega arith, refl, λ o q g. g)

pub put_line-p-requires : goal.put_line-p-requires
put_line-p-requires c =
    let a = c.args in
    let s = a.s.now in
    let f = c.line_end-e in
    let t = slice c.loop-a.a f.result s in
    let ls = lines (drop (f.result + 1) s) in
    let n = ap length (cut a.start.0 (lines s) t ls (lines (drop c.loop-a.a s)) f.ensures.cut) ∙ length-append (line_piece a.start.0 (lines s) t) (line_bytes a.start.0 (lines s) ls) in
    let pre = c.requires in
    let i = c.loop-a.invariant.1 in
    let j = c.loop-a.invariant.2 in
    record { a_le_e = (f.ensures.from, f.ensures.within); s_in_bounds = omega arith }

pub loop-a-preserved : goal.loop-a-preserved
loop-a-preserved c =
    let a = c.args in
    let s = a.s.now in
    let f = c.line_end-e in
    let x = c.put_line-p in
    let st = a.start.0 in
    let t = slice c.loop-a.a f.result s in
    let ls = lines (drop (f.result + 1) s) in
    let from = lines (drop c.loop-a.a s) in
    let e = cut st (lines s) t ls from f.ensures.cut in
    let n = ap length e ∙ length-append (line_piece st (lines s) t) (line_bytes st (lines s) ls) in
    let u = f.ensures.within in
    let w = x.ensures.0 in
    let i = c.loop-a.invariant.1 in (
      omega arith,
      omega arith,
      x.auto.out ∙ c.loop-a.invariant.2,
      λ o q g. c.loop-a.invariant.3 o q
          (gives_as c.loop-a.out o (line_piece st (lines s) t ++ line_bytes st (lines s) ls) (line_bytes st (lines s) from) c.loop-a.p q (sym e)
          (gives_then c.loop-a.out x.new.out o (line_piece st (lines s) t) (line_bytes st (lines s) ls) c.loop-a.p x.result q x.ensures.1 g)),
    )

pub returns : goal.returns
returns c =
    let a = c.args in
    let s = a.s.now in
    let st = a.start.0 in
    let e = ap (line_bytes st (lines s)) (lines_gone s c.loop-a.a c.loop-a-test.false) ∙ line_none st (lines s) in
    let n = ap length e in
    let i = c.loop-a.invariant.1 in
    (omega arith, c.loop-a.invariant.3 c.loop-a.out c.loop-a.p (gives_as c.loop-a.out c.loop-a.out [] (line_bytes st (lines s) (lines (drop c.loop-a.a s))) c.loop-a.p c.loop-a.p (sym e) (gives_none c.loop-a.out c.loop-a.p)))
