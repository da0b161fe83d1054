-- `line_size` meets its contract: a comment, or the line without the CR at its end. Assumes nothing.
use mathlib.Core.Path.{ap, sym, ◌∙◌}
use mathlib.Core.List.{List, [], ◌∷◌, ◌++◌}
use native.Mathlib.Omega.{arith}
use lib.ListN.{length, length-append}
use lib.Seq.{slice, length-slice}
use Rattle.chars.specs.Bytes.{LF}
use Rattle.writer.proofs.LinePieces.{plain_comment, plain_record}
use Rattle.writer.proofs.line_size.Goals as goal

pub returns-then-is_comment : goal.returns-then-is_comment
returns-then-is_comment c =
    let a = c.args in
    let p = c.requires in
    let l = slice a.a a.e a.s.now in
    let h = ap length (plain_comment l (sym c.is_comment.ensures ∙ c.if-is_comment.true)) in
    record { value = sym h; result_bound = omega arith }

pub returns : goal.returns
returns c =
    let a = c.args in
    let s = a.s.now in
    let l = slice a.a a.e s in
    let B = c.bare_end.ensures in
    let h = ap length (plain_record l (sym c.is_comment.ensures ∙ c.if-is_comment.false)) in
    let m = ap length (ap (λ (x : List _). x ++ (LF ∷ [])) B.cut) in
    let n = length-append (slice a.a c.bare_end.result s) (LF ∷ []) in
    let i = B.from in
    let j = B.within in
    let k = length-slice a.a c.bare_end.result s (omega arith) in
    record { value = omega arith; result_bound = omega arith }
