-- Inner contracts: the outcome of a sheet that the code holds. Assumes nothing.
use Rattle.std.specs.Prelude.{ℕ, List, Result, Ok, Err}
use Rattle.refusals.specs.Number.{number_of}
use Rattle.lines.specs.declared.parse.Parse.{Parse}
use Rattle.lines.specs.declared.Fault.{Fault}
use Rattle.lines.specs.Reader.{Outcome, refused, written}
use Rattle.lines.specs.Kept.{book_in}

-- The outcome of the sheet that the code holds.
abbrev pub outcome_of : List ℕ → Result Parse Fault → Outcome
outcome_of words (Ok b) = written (book_in words b)
outcome_of words (Err fault) = refused (number_of fault.refusal) fault.line
