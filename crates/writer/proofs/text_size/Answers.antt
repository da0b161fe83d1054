-- `text_size` meets its contract. Assumes nothing.
use mathlib.Core.Path.{ap, ◌∙◌}
use mathlib.Core.List.{List}
use Prim.Native.Nat.{ℕ, ◌+◌}
use native.Mathlib.Omega.{arith}
use lib.ListN.{length, drop, length-append}
use lib.Seq.{slice}
use Rattle.chars.specs.Pieces.{lines}
use Rattle.chars.proofs.Ends.{lines_gone}
use Rattle.writer.specs.Inner.{plain_piece, plain_bytes}
use Rattle.writer.proofs.LinePieces.{plain_more, plain_none}
use Rattle.writer.proofs.text_size.Goals as goal

pub loop-a-init : goal.loop-a-init
loop-a-init c = (omega arith, omega arith, omega arith)

pub loop-a-preserved : goal.loop-a-preserved
loop-a-preserved c =
    let s = c.args.s.now in
    let f = c.line_end-e in
    let x = c.line_size-n in
    let t = slice c.loop-a.a f.result s in
    let ls = lines (drop (f.result + 1) s) in
    let h = ap (λ (m : List (List ℕ)). length (plain_bytes m)) f.ensures.cut ∙ ap length (plain_more t ls) ∙ length-append (plain_piece t) (plain_bytes ls) in
    let i = f.ensures.within in
    let j = x.ensures.value in
    let k = x.ensures.result_bound in
    (omega arith, omega arith, omega arith)

pub returns : goal.returns
returns c =
    let s = c.args.s.now in
    let h = ap (λ (m : List (List ℕ)). length (plain_bytes m)) (lines_gone s c.loop-a.a c.loop-a-test.false) ∙ ap length plain_none in
    omega arith
