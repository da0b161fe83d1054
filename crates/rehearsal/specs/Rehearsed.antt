-- What one rehearsal of a sheet gives and leaves in the list of ends. Assumes nothing.
use Rattle.std.specs.Prelude.{ℕ, ◌≡◌, List, length, replicate}
use Rattle.fields.specs.Book.{Book, joined}
use Rattle.lines.specs.Reader.{read_sheet, refused, written}
use Rattle.evaluator.specs.Evaluated.{Evaluated, Asked, asked, lent, told}
use Rattle.rehearsal.specs.declared.Rehearsal.{Rehearsal}

-- A refusal of the reader: its number and line, counts of 0.
abbrev pub refusal : ℕ → ℕ → Rehearsal
refusal number line = record { refusal = number; line = line; ends = 0; calls = 0; answers = 0; rounds = 0 }

-- What a book asks of the evaluator.
abbrev pub asked_by : Book → Asked
asked_by b = asked (length b.names.fluents) (length b.names.actions) (joined b.rules) b.goal b.start

pub data Rehearsed (sheet before after : List ℕ) (r : Rehearsal) : Type 0 where
  -- 10 to 18: the list unchanged.
  not_read : (number line : ℕ) → read_sheet sheet ≡ refused number line → r ≡ refusal number line → after ≡ before → Rehearsed sheet before after r
  -- The book's goal evaluated in rooms of 512 calls and 256 answers, with a list for 512 calls, all 0 at first; no line.
  evaluated : (b : Book) (calls answers list : List ℕ) → read_sheet sheet ≡ written b → r.line ≡ 0
      → Evaluated (asked_by b) (lent (replicate 1536 0) (replicate 5120 0) before (replicate 512 0)) (lent calls answers after list)
      (told r.refusal r.ends r.calls r.answers r.rounds)
      → Rehearsed sheet before after r
