-- `read_lines` meets its contract, one line after the other. Assumes nothing.
use Rattle.std.proofs.Common.{◌+◌, sym, ◌∙◌, drop, arith}
use Rattle.std.proofs.Math.Seq.{slice}
use Rattle.chars.specs.Pieces.{lines}
use Rattle.chars.proofs.Ends.{lines_gone}
use Rattle.lines.specs.Kept.{reading_in}
use Rattle.lines.proofs.LineVerdicts.{line_read, line_refused, lines_read}
use Rattle.lines.proofs.read_lines.Goals as goal

pub returns-in-Err : goal.returns-in-Err
returns-in-Err c =
    let s = c.args.s.now in
    let f = c.line_end-end in
    let h = rw f.ensures.cut at c.loop-at.invariant.sofar in
    record {
      outcome = sym (h ∙ line_refused c.loop-at.line (reading_in c.loop-at.words c.loop-at.said) (slice c.loop-at.at f.result s) (lines (drop (f.result + 1) s)) _ (sym c.in-Err.ensures));
      words_len = c.next_line.auto.words ∙ c.loop-at.invariant.size;
    }

pub loop-at-preserved : goal.loop-at-preserved
loop-at-preserved c =
    let s = c.args.s.now in
    let f = c.line_end-end in
    let t = f.ensures.from in
    let u = f.ensures.within in
    let h = rw f.ensures.cut at c.loop-at.invariant.sofar in
    record {
      within = omega arith;
      numbered = omega arith;
      size = c.next_line.auto.words ∙ c.loop-at.invariant.size;
      sofar = h ∙ line_read c.loop-at.line (reading_in c.loop-at.words c.loop-at.said) (slice c.loop-at.at f.result s) (lines (drop (f.result + 1) s)) _ (sym c.in_default.ensures);
    }

pub returns : goal.returns
returns c =
    let h = rw (lines_gone c.args.s.now c.loop-at.at c.loop-at-test.false) at c.loop-at.invariant.sofar in
    record { outcome = sym (h ∙ lines_read c.loop-at.line (reading_in c.loop-at.words c.loop-at.said)); words_len = c.loop-at.invariant.size }
