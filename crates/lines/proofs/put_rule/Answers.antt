use mathlib.Core.Path.{◌≡◌, ◌∙◌}
use Prim.Native.Nat.{◌+◌}
use native.Mathlib.Omega.{arith}
use lib.ListN.{set, length-set}
use Rattle.std.proofs.lemmas.List.Edits.{paste_more}
use Rattle.lines.proofs.put_rule.Goals as goal

pub loop-k-preserved : goal.loop-k-preserved
loop-k-preserved c =
    let a = c.args in
    let w = set a.words.now a.at a.head in
    let long = length-set w (a.at + 1) a.body.now.len ∙ length-set a.words.now a.at a.head in
    let more = c.loop-k-test.true in
    let size = c.type_inv.body in
    rw c.loop-k.invariant (paste_more (set w (a.at + 1) a.body.now.len) (a.at + 2) a.body.now.words c.loop-k.k 0 (omega (arith, long, more, c.requires)) (omega (arith, more, size)))
