-- `write_both` meets its contract: a refusal, room short, or the text. Assumes nothing.
use mathlib.Core.Path.{ap, sym, ◌∙◌}
use mathlib.Core.List.{List, [], ◌++◌}
use Prim.Native.Nat.{ℕ, ◌≤◌, ◌<◌}
use native.Mathlib.Omega.{arith}
use lib.ListN.{length, drop}
use Rattle.std.proofs.lemmas.Result.{err_from_is_err_and}
use Rattle.writer.specs.Text.{text_of}
use Rattle.writer.specs.Writer.{over}
use Rattle.writer.proofs.Filling.{filled_first}
use Rattle.parts.specs.Texts.{text_in}
use Rattle.merge.specs.Joined.{both_books}
use Rattle.merge.specs.Merge.{said}
use Rattle.merge.proofs.Outcomes.{faulty_result, faulty_out, short_result, short_out, merged_result, merged_out}
use Rattle.merge.proofs.write_both.Goals as goal

pub returns-in_err-j : goal.returns-in_err-j
returns-in_err-j c =
    let a = c.args in
    let p = err_from_is_err_and c.from_residual.result c.from_residual.ensures.1 in
    let fault = c.in_err-j.field-0.0 in
    let e = c.in_err-j.ensures in
    record {
      value = rw (p.1, p.2) (sym (faulty_result a.out.now _ fault.refusal fault.sheet fault.line e));
      out_after = sym (faulty_out a.out.now _ fault.refusal fault.sheet fault.line e);
    }

pub returns-then-out-j : goal.returns-then-out-j
returns-then-out-j c =
    let a = c.args in
    let J = c.in_ok-j.ensures in
    let n = J.size in
    let l : length a.out.now < length (text_of (both_books J.ours J.theirs)) = omega (arith, c.if-out-j.true) in
    record { value = rw c.from.ensures (sym (short_result a.out.now _ J.ours J.theirs J.joined l)); out_after = sym (short_out a.out.now _ J.ours J.theirs J.joined l) }

pub put_text-requires : goal.put_text-requires
put_text-requires c =
    let J = c.in_ok-j.ensures in
    let n = J.size in
    let t = ap length J.is in
    record { inside = J.inside; ordered = (J.ordered, omega (arith, c.if-out-j.false)) }

pub returns : goal.returns
returns c =
    let a = c.args in
    let x = c.put_text in
    let J = c.in_ok-j.ensures in
    let o = a.out.now in
    let T = text_of (both_books J.ours J.theirs) in
    let n = J.size in
    let l : length T ≤ length o = omega (arith, c.if-out-j.false) in
    let f = x.ensures.1 o [] (filled_first o) in
    let W = text_in (a.first.now ++ a.second.now) c.join.new.list c.in_ok-j.j.layout c.in_ok-j.j.held in record { value = ap (λ (n : ℕ). said 0 0 0 n) n ∙ sym (merged_result o _ J.ours J.theirs J.joined l); out_after = f.is ∙ ap (λ (n : ℕ). W ++ drop n o) f.here ∙ ap (λ (y : List ℕ). over y o) J.is ∙ sym (merged_out o _ J.ours J.theirs J.joined l) }
