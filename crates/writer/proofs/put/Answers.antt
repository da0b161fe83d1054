-- `put` meets its contract. Assumes nothing.
use mathlib.Core.Path.{◌≡◌, refl, sym, ◌∙◌}
use mathlib.Core.List.{append_assoc}
use lib.ListN.{length}
use Rattle.std.proofs.Common.{arith}
use Rattle.std.proofs.lemmas.List.Edits.{paste_all, paste_more}
use Rattle.writer.proofs.Filling.{filled_piece}
use Rattle.writer.proofs.put.Goals as goal

pub loop-k-preserved : goal.loop-k-preserved
loop-k-preserved c =
    let a = c.args in
    let more = c.loop-k-test.true in
    rw c.loop-k.invariant (paste_more a.out.now a.at a.piece.now c.loop-k.k 0 (omega (arith, more, c.requires)) (omega (arith, more)))

pub returns : goal.returns
returns c =
    let a = c.args in
    let all : c.loop-k.k ≡ length a.piece.now = omega (arith, c.loop-k-test.false, c.loop-k.auto.k-end) in
    let put = (rw all at c.loop-k.invariant) ∙ paste_all a.out.now a.at a.piece.now (length a.piece.now) refl ∙ sym (append_assoc _ a.piece.now _) in
    (refl, λ d t f. filled_piece a.out.now a.piece.now a.at d t _ f put)
