-- `join` meets its contract: the sheets' own faults, 70 and 17, the text's length, or what the two say together. Assumes nothing.
use borrow.Author.Tests.{lt-ltb, le-ltb}
use mathlib.Core.Path.{ap, sym, ◌∙◌}
use mathlib.Core.Bool.{Bool, cond}
use mathlib.Core.List.{◌++◌}
use Prim.Native.Nat.{ℕ}
use native.Mathlib.Omega.{arith}
use lib.ListN.{length, length-append}
use Rattle.refusals.specs.Sheet.{sheet_refusals}
use Rattle.writer.specs.Text.{text_of}
use Rattle.std.proofs.lemmas.Result.{err_from_is_err_and}
use Rattle.refusals.proofs.Numbers.{number-not_zero}
use Rattle.writer.proofs.Outcomes.{told_written}
use Rattle.merge.specs.Joined.{both_books}
use Rattle.merge.specs.Merge.{faulty, joins}
use Rattle.merge.proofs.Laying.{holds_kept}
use Rattle.merge.proofs.Joinings.{few, first_faulty, second_faulty, both_read, judged, start_laid, fluents_few, ordered, text_laid}
use Rattle.merge.proofs.join.Goals as goal

pub returns-in_err-a : goal.returns-in_err-a
returns-in_err-a c =
    let p = err_from_is_err_and c.from_residual.result c.from_residual.ensures.1 in
    let fault = c.in_err-a.field-0.0 in
    let (e, w) = c.in_err-a.ensures in
    rw (p.1, p.2) (first_faulty c.args.first.now c.args.second.now fault.refusal fault.line e ∙ ap (λ (n : ℕ). faulty fault.refusal n fault.line) (sym w))

pub returns-in_err-b : goal.returns-in_err-b
returns-in_err-b c =
    let s = c.args.first.now in
    let t = c.args.second.now in
    let X = told_written s _ c.in_ok-a.ensures.0 c.in_ok-a.ensures.1 in
    let p = err_from_is_err_and c.from_residual-in_err-b.result c.from_residual-in_err-b.ensures.1 in
    let fault = c.in_err-b.field-0.0 in
    let (e, w) = c.in_err-b.ensures in
    rw (p.1, p.2) (second_faulty s t X.0 fault.refusal fault.line X.1 e ∙ ap (λ (n : ℕ). faulty fault.refusal n fault.line) (sym w))

pub lay-layout-requires : goal.lay-layout-requires
lay-layout-requires c =
    let s = c.args.first.now in
    let t = c.args.second.now in
    let X = told_written s _ c.in_ok-a.ensures.0 c.in_ok-a.ensures.1 in
    let Y = told_written t _ c.in_ok-b.ensures.0 c.in_ok-b.ensures.1 in
    let a = X.0 in
    let b = Y.0 in
    (few s a X.1, few t b Y.1, c.requires)

pub returns-in_err-may_join : goal.returns-in_err-may_join
returns-in_err-may_join c =
    let s = c.args.first.now in
    let t = c.args.second.now in
    let X = told_written s _ c.in_ok-a.ensures.0 c.in_ok-a.ensures.1 in
    let Y = told_written t _ c.in_ok-b.ensures.0 c.in_ok-b.ensures.1 in
    let a = X.0 in
    let b = Y.0 in
    let v = c.in_err-may_join.ensures in
    let p = err_from_is_err_and c.from_residual-in_err-may_join.result c.from_residual-in_err-may_join.ensures.1 in
    let J = judged s t a b X.1 Y.1 in
    rw (p.1, p.2) (both_read s t a b X.1 Y.1 ∙ J.no (λ z. number-not_zero _ (v ∙ z)) ∙ ap (λ (m : ℕ). faulty m 0 0) (sym v))

pub starts-state-requires : goal.starts-state-requires
starts-state-requires c =
    let L = c.lay-layout.ensures in
    let (i, j, k) = L.fluents.order in
    let (o, p, q, r) = L.order in
    record { inside = λ x h. L.inside x (omega arith); inside_2 = λ x h. L.inside x (omega arith); lo_le_hi = (omega arith, omega arith) }

pub held-held-requires : goal.held-held-requires
held-held-requires c =
    let s = c.args.first.now in
    let t = c.args.second.now in
    let X = told_written s _ c.in_ok-a.ensures.0 c.in_ok-a.ensures.1 in
    let Y = told_written t _ c.in_ok-b.ensures.0 c.in_ok-b.ensures.1 in
    let a = X.0 in
    let b = Y.0 in
    let f = (judged s t a b X.1 Y.1).yes (sym c.in_ok-may_join.ensures) in
    let l = c.lay-layout in
    let L = l.ensures in
    let (i, j, k) = L.fluents.order in
    let (o, p, q, r) = L.order in
    let n = fluents_few s t l.new.list l.result a b X.1 Y.1 L f.0 in
    let m = l.auto.list in
    let w = c.requires in
    (omega arith, o, omega arith)

pub text_size-size-requires : goal.text_size-size-requires
text_size-size-requires c =
    let s = c.args.first.now in
    let t = c.args.second.now in
    let X = told_written s _ c.in_ok-a.ensures.0 c.in_ok-a.ensures.1 in
    let Y = told_written t _ c.in_ok-b.ensures.0 c.in_ok-b.ensures.1 in
    let a = X.0 in
    let b = Y.0 in
    let f = (judged s t a b X.1 Y.1).yes (sym c.in_ok-may_join.ensures) in
    let l = c.lay-layout in
    let L = l.ensures in
    let x = c.held-held in
    let S = c.starts-state in
    let w = S.ensures ∙ start_laid s t l.new.list l.result a b X.1 Y.1 L f.0 c.of.result.0 c.of-2.result.0 (c.of.ensures ∙ Y.2) (c.of-2.ensures ∙ X.2) in
    let G = x.ensures (length s) (s ++ t) L.inside in
    let o = ordered s t l.new.list l.result a b X.1 Y.1 L f.0 x.new.list x.result S.result.0 w G in
    let y = text_laid s t l.new.list l.result a b X.1 Y.1 L f.0 x.new.list x.result S.result.0 w G in
    let e = (few s a X.1).short in
    let g = (few t b Y.1).short in
    let n = length-append s t in
    record { inside = G.inside L.inside; ordered = (o, omega arith) }

pub returns-then-size-gt65536 : goal.returns-then-size-gt65536
returns-then-size-gt65536 c =
    let s = c.args.first.now in
    let t = c.args.second.now in
    let X = told_written s _ c.in_ok-a.ensures.0 c.in_ok-a.ensures.1 in
    let Y = told_written t _ c.in_ok-b.ensures.0 c.in_ok-b.ensures.1 in
    let a = X.0 in
    let b = Y.0 in
    let f = (judged s t a b X.1 Y.1).yes (sym c.in_ok-may_join.ensures) in
    let l = c.lay-layout in
    let L = l.ensures in
    let x = c.held-held in
    let S = c.starts-state in
    let w = S.ensures ∙ start_laid s t l.new.list l.result a b X.1 Y.1 L f.0 c.of.result.0 c.of-2.result.0 (c.of.ensures ∙ Y.2) (c.of-2.ensures ∙ X.2) in
    let G = x.ensures (length s) (s ++ t) L.inside in
    let o = ordered s t l.new.list l.result a b X.1 Y.1 L f.0 x.new.list x.result S.result.0 w G in
    let y = text_laid s t l.new.list l.result a b X.1 Y.1 L f.0 x.new.list x.result S.result.0 w G in
    let n = c.text_size-size.ensures ∙ ap length y in
    let v = lt-ltb 65536 (length (text_of (both_books a b))) (omega (arith, c.if-size-gt65536.true)) in
    let h = both_read s t a b X.1 Y.1 ∙ f.2 ∙ ap (λ (v : Bool). cond v (faulty sheet_refusals.too_long 0 0) (joins a b)) v in
    rw c.from.ensures h

pub returns : goal.returns
returns c =
    let s = c.args.first.now in
    let t = c.args.second.now in
    let X = told_written s _ c.in_ok-a.ensures.0 c.in_ok-a.ensures.1 in
    let Y = told_written t _ c.in_ok-b.ensures.0 c.in_ok-b.ensures.1 in
    let a = X.0 in
    let b = Y.0 in
    let f = (judged s t a b X.1 Y.1).yes (sym c.in_ok-may_join.ensures) in
    let l = c.lay-layout in
    let L = l.ensures in
    let x = c.held-held in
    let S = c.starts-state in
    let w = S.ensures ∙ start_laid s t l.new.list l.result a b X.1 Y.1 L f.0 c.of.result.0 c.of-2.result.0 (c.of.ensures ∙ Y.2) (c.of-2.ensures ∙ X.2) in
    let G = x.ensures (length s) (s ++ t) L.inside in
    let o = ordered s t l.new.list l.result a b X.1 Y.1 L f.0 x.new.list x.result S.result.0 w G in
    let y = text_laid s t l.new.list l.result a b X.1 Y.1 L f.0 x.new.list x.result S.result.0 w G in
    let n = c.text_size-size.ensures ∙ ap length y in
    let v = le-ltb 65536 (length (text_of (both_books a b))) (omega (arith, c.if-size-gt65536.false)) in
    let h = both_read s t a b X.1 Y.1 ∙ f.2 ∙ ap (λ (v : Bool). cond v (faulty sheet_refusals.too_long 0 0) (joins a b)) v in
    let (i, p, q, r) = L.order in
    record {
      ours = a;
      theirs = b;
      joined = h;
      is = y;
      size = n;
      ordered = o;
      inside = G.inside L.inside;
      fluents = holds_kept _ _ _ _ _ _ _ l.result.fluents _ _ i G L.fluents;
    }
