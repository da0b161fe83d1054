-- `note` meets its contract. Assumes nothing.
use mathlib.Core.Path.{refl, sym, ◌∙◌}
use Rattle.path.proofs.place.note.Goals as goal

pub put-requires : goal.put-requires
put-requires c = (c.requires.0 (sym c.is_call.ensures ∙ c.if-is_call.true), c.requires.1)

pub returns-then-is_call : goal.returns-then-is_call
returns-then-is_call c = rw (sym c.is_call.ensures ∙ c.if-is_call.true) c.put.ensures

pub returns-else-is_call : goal.returns-else-is_call
returns-else-is_call c = rw (sym c.is_call.ensures ∙ c.if-is_call.false) refl
