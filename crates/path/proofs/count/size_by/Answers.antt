-- `size_by` meets its contract, by the step's kind. Assumes nothing.
use mathlib.Core.Path.{sym, ◌∙◌}
use Rattle.unfolding.proofs.Sizes.{size_of}
use Rattle.path.proofs.count.size_by.Goals as goal

pub get-requires : goal.get-requires
get-requires c = c.requires (sym c.is_call.ensures ∙ c.if-is_call.true)

pub returns-then-is_call : goal.returns-then-is_call
unfolding size_of
returns-then-is_call c t = rw (sym c.is_call.ensures ∙ c.if-is_call.true) c.get.ensures

pub returns : goal.returns
unfolding size_of
returns c t = rw (sym c.is_call.ensures ∙ c.if-is_call.false) (c.shown.ensures t)
