-- `name_in` meets its contract. Assumes nothing.
use mathlib.Core.Path.{refl, sym, ap, ◌∙◌}
use Rattle.naming.proofs.name_in.Goals.{then-is_word+else-left-eq0, else-is_word}
use Prim.Native.Nat.{ℕ, ◌+◌}
use native.Mathlib.Omega.{arith}
use lib.ListN.{drop}
use Rattle.chars.specs.Pieces.{lines}
use Rattle.chars.proofs.Ends.{lines_gone}
use Rattle.naming.specs.Spans.{name_in}
use Rattle.naming.proofs.Spans.{name_passed, name_later, name_here, name_nowhere}
use Rattle.naming.proofs.name_in.Goals as goal

pub loop-at-init : goal.loop-at-init
loop-at-init c = (omega arith, refl)

pub returns-then-left-eq0 : goal.returns-then-left-eq0
returns-then-left-eq0 c =
    let l = c.loop-at in
    let s = c.args.s.now in
    let x = c.line_end-e in
    let z = c.bare_end-end in
    let f = c.field_end-q in
    let h = rw x.ensures.cut at l.invariant.1 in
    let v = name_here s l.at x.result z.result f.result l.left (lines (drop (x.result + 1) s)) z.ensures f.ensures x.ensures.within (sym c.is_word.ensures ∙ c.if-is_word.true) c.if-left-eq0.true in
    c.field_span.ensures ∙ sym (h ∙ v)

pub loop-at-preserved : goal.loop-at-preserved
loop-at-preserved c =
    let l = c.loop-at in
    let s = c.args.s.now in
    let x = c.line_end-e in
    let z = c.bare_end-end in
    let f = c.field_end-q in
    let w = c.is_word in
    let ls = lines (drop (x.result + 1) s) in
    let h = rw x.ensures.cut at l.invariant.1 in
    let i = x.ensures.within in (
      omega arith,
      elim c.if-is_word.branch [
        | then-is_word+else-left-eq0 p ↦ h ∙ name_later s l.at x.result z.result f.result l.left ls z.ensures f.ensures x.ensures.within (sym w.ensures ∙ p.if-is_word.true) p.if-left-eq0.false ∙ ap (λ (j : ℕ). name_in (x.result + 1) j ls) (sym p.left-is)
        | else-is_word p ↦ h ∙ name_passed s l.at x.result z.result f.result l.left ls z.ensures f.ensures x.ensures.within (sym w.ensures ∙ p.if-is_word.false) ∙ ap (λ (j : ℕ). name_in (x.result + 1) j ls) (sym p.left-is)
      ],
    )

pub returns : goal.returns
returns c =
    let l = c.loop-at in
    let s = c.args.s.now in
    let h = rw (lines_gone s l.at c.loop-at-test.false) at l.invariant.1 in
    sym (h ∙ name_nowhere l.at l.left)
