-- What C sees of a search for a row: the search may be refused, and may find none. Assumes nothing.
use Rattle.std.specs.Prelude.{ℕ, Option, None, Some, Result, Ok, Err}
use Rattle.refusals.specs.declared.Refusal.{Refusal}
use Rattle.refusals.specs.Number.{number_of}
use Rattle.lookup.specs.declared.Found.{Found}
use Rattle.lookup.specs.Lookup.{at_row, no_row, refused}

abbrev pub told : Result (Option ℕ) Refusal → Found
told (Ok (Some row)) = at_row row
told (Ok None) = no_row
told (Err refusal) = refused (number_of refusal)
