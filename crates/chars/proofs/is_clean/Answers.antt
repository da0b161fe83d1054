-- `is_clean` meets its contract, one byte after the other. Assumes nothing.
use Rattle.std.proofs.Common.{◌≡◌, ◌+◌, sym, ◌∙◌, true, cond, get_or, drop, eqb, arith}
use borrow.Author.Tests.{eq-eqb, ne_eqb}
use Rattle.chars.specs.Bytes.{LF, HASH, begins, may_stand, clean}
use Rattle.chars.proofs.Clean.{clean_step, clean_past}
use Rattle.chars.proofs.is_clean.Goals as goal
use Rattle.chars.proofs.is_clean.Goals.{then-b-eq10, else-b-eq10}

pub loop-i-init : goal.loop-i-init
unfolding clean
loop-i-init c = cc

pub returns-then-not-may_stand : goal.returns-then-not-may_stand
returns-then-not-may_stand c =
    rw (c.loop-i.invariant, clean_step c.args.s.now c.loop-i.i c.loop-i.comment (omega arith), ← c.may_stand.ensures, c.if-not-may_stand.true)

pub loop-i-preserved : goal.loop-i-preserved
loop-i-preserved c =
    let s = c.args.s.now in
    let x = get_or s c.loop-i.i 0 in
    let f = clean_step s c.loop-i.i c.loop-i.comment (omega arith) in
    let e : may_stand c.loop-i.comment x (drop (c.loop-i.i + 1) s) ≡ true = sym c.may_stand.ensures ∙ c.if-not-may_stand.false in
    let g : cond (eqb x LF) (begins HASH (drop (c.loop-i.i + 1) s)) c.loop-i.comment ≡ c.if-b-eq10.comment =
    elim c.if-b-eq10.branch [ then-b-eq10 w ↦ rw (eq-eqb x LF w.if-b-eq10.true) (sym w.begins-comment-then-b-eq10.ensures ∙ sym w.comment-is) | else-b-eq10 w ↦ rw (ne_eqb x LF w.if-b-eq10.false) (sym w.comment-is) ] in
    c.loop-i.invariant ∙ f ∙ rw (e, g)

pub returns : goal.returns
returns c = cc (clean_past c.args.s.now c.loop-i.i c.loop-i.comment (omega arith))
