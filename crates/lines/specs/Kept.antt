-- Inner contracts: what the code keeps from line to line, and what the functions of lines give. Assumes nothing.
use Rattle.std.specs.Prelude.{ℕ, zero, suc, Bool, not, ◌&&◌, List, [], ◌∷◌, leb, ltb, take, drop, Result, Ok, Err}
use Rattle.refusals.specs.Sheet.{line_refusals}
use Rattle.refusals.specs.Number.{number_of}
use Rattle.steps.specs.Widths.{rule_width}
use Rattle.fields.specs.Verdict.{Verdict, accept, ◌>>=◌, require}
use Rattle.fields.specs.Book.{Book}
use Rattle.fields.specs.Held.{symbols_of, steps_of}
use Rattle.lines.specs.declared.parse.Parse.{Parse}
use Rattle.lines.specs.declared.Fault.{Fault}
use Rattle.lines.specs.declared.Stage.{Stage}
use Rattle.lines.specs.declared.Stage.TheVariants.{Fluents, Actions, Rules, Start, Goal, End}
use Rattle.lines.specs.declared.Word.{Word}
use Rattle.lines.specs.Line.{Reading, row, overfull, miscounted, record_line, after}
use Rattle.lines.specs.Reader.{Outcome, refused, at_end}

-- A record word that is not out of order.
abbrev pub in_order : ℕ → Word → Bool
in_order stage w = ltb (row w) 5 && leb stage (row w)

-- The head of a line: what is asked before its fields are read, for a word with n fields after it.
unfoldable pub line_head : Reading → Word → ℕ → Verdict (Unit {0})
unfolding overfull
line_head r w n = do
  _ ← require (in_order r.stage w) line_refusals.bad_word
  _ ← require (not (overfull r.book w n)) line_refusals.too_many
  require (not (miscounted w n)) line_refusals.bad_field

-- A line whose head passed, by its word and the fields after it.
abbrev pub recorded : Reading → Word → List (List ℕ) → Verdict Reading
recorded r w fs = record_line r.book w fs >>= (λ book. accept (after r w book))

-- The first n rules of the words.
unfoldable pub rules_in : List ℕ → ℕ → List (List ℕ)
rules_in words zero = []
rules_in words (suc n) = take rule_width words ∷ rules_in (drop rule_width words) n

-- The place in the row of record words that a stage is.
abbrev pub stage_row : Stage → ℕ
stage_row Fluents = 0
stage_row Actions = 1
stage_row Rules = 2
stage_row Start = 3
stage_row Goal = 4
stage_row End = 5

-- The book that the code holds, its rules in the words.
abbrev pub book_in : List ℕ → Parse → Book
book_in words b = record { names = symbols_of b.names; rules = rules_in words b.rules; start = b.start.0; goal = steps_of b.goal }

-- The reading that the code holds.
abbrev pub reading_in : List ℕ → Parse → Reading
reading_in words b = record { book = book_in words b; stage = stage_row b.stage; started = b.started }

-- The outcome of all lines that the code holds: that of their end, or of the line refused.
abbrev pub ending : List ℕ → Result Parse Fault → Outcome
ending words (Ok b) = at_end (reading_in words b)
ending words (Err fault) = refused (number_of fault.refusal) fault.line
