-- `write_text` meets its contract: the sheet's own refusal, room short, or the text. Assumes nothing.
use mathlib.Core.Path.{◌≡◌, ap, sym, ◌∙◌}
use mathlib.Core.List.{List, [], ◌++◌}
use Prim.Native.Nat.{ℕ, ◌≤◌, ◌<◌}
use native.Mathlib.Omega.{arith}
use lib.ListN.{length, drop}
use Rattle.chars.specs.Pieces.{lines}
use Rattle.fields.specs.Book.{Book}
use Rattle.lines.specs.Reader.{read_sheet, written}
use Rattle.writer.specs.Text.{text_of}
use Rattle.writer.specs.Writer.{said, over}
use Rattle.writer.specs.Inner.{line_bytes}
use Rattle.writer.proofs.Writing.{size_is, text_written}
use Rattle.writer.proofs.Filling.{filled_first}
use Rattle.writer.proofs.Outcomes.{told_refused, told_written, refused_result, refused_out, short_result, short_out, written_result, written_out}
use Rattle.writer.proofs.write_text.Goals as goal

-- what the lines give is the text
is_text : (s : List ℕ) (b : Book) (word start : ℕ) → read_sheet s ≡ written b → word ≡ start → start ≡ b.start → line_bytes word (lines s) (lines s) ≡ text_of b
is_text s b word start e w q = ap (λ (st : ℕ). line_bytes st (lines s) (lines s)) (w ∙ q) ∙ text_written s b e

pub returns-then-got-ne0 : goal.returns-then-got-ne0
returns-then-got-ne0 c =
    let a = c.args in
    let s = a.text.now in
    let o = a.out.now in
    let x = c.read-got in
    let e = told_refused s x.result x.ensures.value c.if-got-ne0.true in
    record { value = sym (refused_result o (read_sheet s) x.result.refusal x.result.line e); out_after = sym (refused_out o (read_sheet s) x.result.refusal x.result.line e) }

pub returns-then-out-n : goal.returns-then-out-n
returns-then-out-n c =
    let a = c.args in
    let s = a.text.now in
    let o = a.out.now in
    let x = c.read-got in
    let b = told_written s x.result x.ensures.value c.if-got-ne0.false in
    let z : c.text_size-n.result ≡ length (text_of b.0) = c.text_size-n.ensures ∙ size_is s b.0 b.1 in
    let l : length o < length (text_of b.0) = omega (arith, c.if-out-n.true) in
    record { value = ap (λ (k : ℕ). said k 0 0) c.number.ensures ∙ sym (short_result o (read_sheet s) b.0 b.1 l); out_after = sym (short_out o (read_sheet s) b.0 b.1 l) }

pub put_lines-requires : goal.put_lines-requires
put_lines-requires c =
    let a = c.args in
    let s = a.text.now in
    let o = a.out.now in
    let x = c.read-got in
    let b = told_written s x.result x.ensures.value c.if-got-ne0.false in
    let z : c.text_size-n.result ≡ length (text_of b.0) = c.text_size-n.ensures ∙ size_is s b.0 b.1 in
    let t = ap length (is_text s b.0 c.of.result.0 x.result.start b.1 c.of.ensures b.2) in
    omega (arith, c.if-out-n.false)

pub returns : goal.returns
returns c =
    let a = c.args in
    let s = a.text.now in
    let o = a.out.now in
    let x = c.read-got in
    let b = told_written s x.result x.ensures.value c.if-got-ne0.false in
    let z : c.text_size-n.result ≡ length (text_of b.0) = c.text_size-n.ensures ∙ size_is s b.0 b.1 in
    let T = text_of b.0 in
    let w = c.of in
    let y = c.put_lines in
    let t = is_text s b.0 w.result.0 x.result.start b.1 w.ensures b.2 in
    let f = y.ensures.1 o [] (filled_first o) in
    let l : length T ≤ length o = omega (arith, c.if-out-n.false) in
    record {
      value = ap (λ (n : ℕ). said 0 0 n) z ∙ sym (written_result o (read_sheet s) b.0 b.1 l);
      out_after = f.is ∙ ap (λ (n : ℕ). line_bytes w.result.0 (lines s) (lines s) ++ drop n o) f.here ∙ ap (λ (v : List ℕ). over v o) t ∙ sym (written_out o (read_sheet s) b.0 b.1 l);
    }
