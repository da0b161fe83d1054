use native.Mathlib.Omega.{arith}
use Rattle.index.specs.Index.{keys_in}
use Rattle.index.proofs.IndexLaws.{sought_head, sought_link}
use Rattle.index.proofs.find.Goals as goal
use Rattle.index.proofs.find.Goals.{else-words-width-via-then-words-width+else-words-width-2, else-words-width-via-else-words-width}

pub loop-i-init : goal.loop-i-init
loop-i-init c =
    let a = c.args in
    sought_head a.most (keys_in a.unit a.width a.words.now a.n) a.first a.second a.notes.now a.base c.requires.keyed
    (omega arith) c.bucket-k.result c.get-i.result c.bucket-k.ensures.value c.get-i.ensures.0

pub loop-i-preserved : goal.loop-i-preserved
loop-i-preserved c =
    let a = c.args in λ j l h. (sought_link a.most (keys_in a.unit a.width a.words.now a.n) a.first a.second a.notes.now a.base c.requires.keyed
    c.loop-i.i c.loop-i.invariant
    (λ r. elim c.else-words-width.branch [ else-words-width-via-then-words-width+else-words-width-2 w ↦ w.if-words-width-2.false r.has_action | else-words-width-via-else-words-width w ↦ w.if-words-width.false r.has_state ])
    c.get-before.result c.get-before.ensures.0 j l h).1
