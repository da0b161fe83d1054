-- `Parse::next_line` meets its contract: a comment, or the line without the CR at its end. Assumes nothing.
use Rattle.std.proofs.Common.{sym, ap, ◌∙◌, arith}
use Rattle.std.proofs.Math.Seq.{slice}
use Rattle.chars.proofs.Ends.{part_slice}
use Rattle.lines.specs.Line.{plain_line}
use Rattle.lines.specs.Kept.{reading_in}
use Rattle.lines.proofs.LineVerdicts.{line_comment, line_plain}
use Rattle.lines.proofs.parse.Parse.next_line.Goals as goal

pub returns-then-is_comment : goal.returns-then-is_comment
returns-then-is_comment c =
    let a = c.args in
    let k = reading_in a.words.now a.self.now in
    sym (line_comment k (slice a.a a.e a.s.now) (sym c.is_comment.ensures ∙ c.if-is_comment.true))

pub returns : goal.returns
returns c =
    let a = c.args in
    let k = reading_in a.words.now a.self.now in
    let x = c.bare_end-end in
    let w = x.ensures.within in
    let p = part_slice a.s.now a.a x.result x.ensures.from (omega arith) in
    c.plain_line.ensures ∙ ap (plain_line k) (p ∙ sym x.ensures.cut)
    ∙ sym (line_plain k (slice a.a a.e a.s.now) (sym c.is_comment.ensures ∙ c.if-is_comment.false))
