-- `open` meets its contract: by whether the limits add up to too much. Assumes nothing.
use mathlib.Core.Path.{refl, sym, ◌∙◌}
use Rattle.sharing.specs.Shared.{no_room, emptied}
use Rattle.opening.proofs.open.Goals as goal

pub returns-then-over_limits : goal.returns-then-over_limits
returns-then-over_limits c = no_room (sym c.over_limits.ensures ∙ c.if-over_limits.true) c.refused.ensures.0 c.refused.ensures.1 refl refl

pub returns : goal.returns
returns c = emptied (sym c.over_limits.ensures ∙ c.if-over_limits.false) refl c.opened.ensures c.clear.ensures c.clear-2.ensures
