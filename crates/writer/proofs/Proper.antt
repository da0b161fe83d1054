-- Books that a text can say: valid, each name a name and none twice. Assumes nothing.
use mathlib.Core.List.{[], ◌++◌}
use Rattle.fields.specs.Book.{Book}
use Rattle.sheet.proofs.Valid.{Valid}
use Rattle.writer.proofs.NamesApart.{Adds, first_part, second_part, adds_named}
use Rattle.writer.proofs.StepsBack.{Named}

pub record Proper (b : Book) : Type 0 where
  pub valid : Valid b
  pub named : Adds [] (b.names.fluents ++ b.names.actions)

pub fluents_named : (b : Book) → Proper b → Named b.names.fluents
fluents_named b p = adds_named [] b.names.fluents (first_part [] b.names.fluents b.names.actions p.named)

pub actions_named : (b : Book) → Proper b → Named b.names.actions
actions_named b p = adds_named b.names.fluents b.names.actions (second_part [] b.names.fluents b.names.actions p.named)
