-- `put_names` meets its contract. Assumes nothing.
use mathlib.Core.Path.{◌≡◌, refl, ap, sym, ◌∙◌}
use mathlib.Core.List.{List, [], ◌∷◌, ◌++◌}
use Prim.Native.Nat.{ℕ, ◌+◌}
use native.Mathlib.Omega.{arith}
use lib.ListN.{length, drop, length-append}
use lib.Seq.{slice}
use Rattle.chars.specs.Pieces.{lines}
use Rattle.chars.proofs.Ends.{lines_gone}
use Rattle.writer.specs.Inner.{held_piece, held_next, held_bytes}
use Rattle.writer.proofs.Filling.{gives_none, gives_then, gives_as}
use Rattle.writer.proofs.LinePieces.{held_more, held_none}
use Rattle.writer.proofs.put_names.Goals as goal

-- the bytes from a line on, by the line
cut : (k st : ℕ) (l : List ℕ) (ls ms : List (List ℕ)) → ms ≡ l ∷ ls → held_bytes k st ms ≡ held_piece k st l ++ held_bytes (held_next k l) st ls
cut k st l ls ms e = ap (held_bytes k st) e ∙ held_more k st l ls

pub loop-a-init : goal.loop-a-init
loop-a-init c = (omega arith, omega arith, refl, refl, λ o q g. g)

pub put_held-next-requires : goal.put_held-next-requires
put_held-next-requires c =
    let a = c.args in
    let s = a.s.now in
    let f = c.line_end-e in
    let t = slice c.loop-a.a f.result s in
    let ls = lines (drop (f.result + 1) s) in
    let n = ap length (cut c.loop-a.k a.start.0 t ls (lines (drop c.loop-a.a s)) f.ensures.cut) ∙ length-append (held_piece c.loop-a.k a.start.0 t) (held_bytes (held_next c.loop-a.k t) a.start.0 ls) in
    let pre = c.requires in
    let i = c.loop-a.invariant.2 in
    let j = c.loop-a.invariant.3 in
    record { a_le_e = (f.ensures.from, f.ensures.within, c.loop-a.invariant.1); s_in_bounds = omega arith }

pub loop-a-preserved : goal.loop-a-preserved
loop-a-preserved c =
    let a = c.args in
    let s = a.s.now in
    let f = c.line_end-e in
    let x = c.put_held-next in
    let k = c.loop-a.k in
    let st = a.start.0 in
    let t = slice c.loop-a.a f.result s in
    let ls = lines (drop (f.result + 1) s) in
    let all = lines (drop c.loop-a.a s) in
    let e = cut k st t ls all f.ensures.cut in
    let h : held_bytes (held_next k t) st ls ≡ held_bytes x.result.fluent st ls = ap (λ (i : ℕ). held_bytes i st ls) (sym x.ensures.fluent_value.0) in
    let n = ap length e ∙ length-append (held_piece k st t) (held_bytes (held_next k t) st ls) in
    let m = ap length h in
    let u = f.ensures.within in
    let v = f.ensures.from in
    let w = x.ensures.puts.0 in
    let y = x.ensures.fluent_value.1 in
    let z = c.loop-a.invariant.1 in
    let i = c.loop-a.invariant.2 in (
      omega arith,
      omega arith,
      omega arith,
      x.auto.out ∙ c.loop-a.invariant.3,
      λ o q g. c.loop-a.invariant.4 o q
          (gives_as c.loop-a.out o (held_piece k st t ++ held_bytes x.result.fluent st ls) (held_bytes k st all) c.loop-a.p q (ap (λ (z : List ℕ). held_piece k st t ++ z) (sym h) ∙ sym e)
          (gives_then c.loop-a.out x.new.out o (held_piece k st t) (held_bytes x.result.fluent st ls) c.loop-a.p x.result.at q x.ensures.puts.1 g)),
    )

pub returns : goal.returns
returns c =
    let a = c.args in
    let s = a.s.now in
    let st = a.start.0 in
    let e = ap (held_bytes c.loop-a.k st) (lines_gone s c.loop-a.a c.loop-a-test.false) ∙ held_none c.loop-a.k st in
    let n = ap length e in
    let i = c.loop-a.invariant.2 in
    (omega arith, c.loop-a.invariant.4 c.loop-a.out c.loop-a.p (gives_as c.loop-a.out c.loop-a.out [] (held_bytes c.loop-a.k st (lines (drop c.loop-a.a s))) c.loop-a.p c.loop-a.p (sym e) (gives_none c.loop-a.out c.loop-a.p)))
