-- `bad_words` meets its contract: the number of words is compared by division. Assumes nothing.
use Prim.Native.Nat.{◌/◌, ◌%◌}
use native.Mathlib.Nat.{mul-zero}
use native.Mathlib.Omega.{arith}
use mathlib.Core.Path.{◌≡◌, refl, sym, ap, ◌∙◌}
use mathlib.Core.Bool.{not}
use lib.Dec.{eqb}
use lib.ListN.{length}
use Rattle.archive.specs.Archive.{blocks}
use Rattle.archive.proofs.Counted.{no_multiple, multiple}
use Rattle.archive.proofs.bad_words.Goals as goal

pub returns-then-fluents-eq0 : goal.returns-then-fluents-eq0
returns-then-fluents-eq0 c = let e : c.args.fluents ≡ 0 = omega arith in rw (e, mul-zero) refl

pub returns-then-len-fluents-ne0 : goal.returns-then-len-fluents-ne0
returns-then-len-fluents-ne0 c = ap not (sym (no_multiple _ _ _ c.if-len-fluents-ne0.true))

pub returns : goal.returns
returns c =
    let a = c.args in
    let len = length a.words.now in
    let whole : len % a.fluents ≡ 0 = omega arith in
    ap not (ap (eqb (len / a.fluents)) c.blocks-2.ensures ∙ multiple len a.fluents (blocks a.count) (omega arith) whole)
