-- `is_word` meets its contract: a part of a slice is a slice of its list. Assumes nothing.
use mathlib.Core.Path.{◌∙◌, ap}
use mathlib.Core.List.{List}
use Prim.Native.Nat.{ℕ}
use Rattle.chars.specs.Places.{same}
use Rattle.chars.proofs.Ends.{part_slice}
use Rattle.chars.proofs.is_word.Goals as goal

pub returns : goal.returns
returns c = c.same_bytes.ensures ∙ ap (λ (l : List ℕ). same l c.args.w.now) (part_slice c.args.s.now c.args.a c.args.e c.requires.0 c.requires.1)
