-- `note` meets its contract. Assumes nothing.
use native.Mathlib.Omega.{arith}
use mathlib.Core.Path.{◌≡◌}
use Rattle.uses.specs.Uses.{uses_in}
use Rattle.uses.proofs.UsesLaws.{uses_refl, noted_none, noted_both}
use Rattle.uses.proofs.note.Goals as goal

pub returns-then-is_noted-clause-by_index : goal.returns-then-is_noted-clause-by_index
returns-then-is_noted-clause-by_index c = λ L. (let (u, a) = c.is_noted.ensures L c.if-is_noted.true in record { grew = uses_refl (uses_in c.args.calls.now L); used = u; after = a })

pub returns-then-last-ne0-clause-by_index : goal.returns-then-last-ne0-clause-by_index
returns-then-last-ne0-clause-by_index c = λ L. noted_both (c.note_caller.ensures.use_added L) (c.note_via.ensures.via_noted L) c.requires.1

pub returns-else-last-ne0-clause-by_index : goal.returns-else-last-ne0-clause-by_index
returns-else-last-ne0-clause-by_index c = λ L. (let none : c.args.last ≡ 0 = omega arith in rw none (noted_none (c.note_caller.ensures.use_added L) c.requires.1))
