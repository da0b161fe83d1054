-- How a sheet is read: the whole sheet (10 to 12), its lines from the top (13 to 17), its end (18). Assumes nothing.
use Rattle.std.specs.Prelude.{ℕ, suc, ◌-◌, Bool, cond, ◌&&◌, ◌||◌, List, [], ◌∷◌, length, get_or, leb, eqb}
use Rattle.refusals.specs.Sheet.{sheet_refusals}
use Rattle.chars.specs.Bytes.{LF, clean}
use Rattle.chars.specs.Pieces.{lines}
use Rattle.fields.specs.Verdict.{Verdict, refuse, accept, ◌>>=◌, require}
use Rattle.fields.specs.Book.{Book}
use Rattle.lines.specs.Line.{Reading, empty, line}

-- Empty, or its last byte is LF.
unfoldable pub ended : List ℕ → Bool
ended s = eqb (length s) 0 || eqb (get_or s (length s - 1) 0) LF

-- Whole sheet: 10, 11, 12.
unfoldable pub whole_sheet : List ℕ → Verdict (Unit {0})
unfolding clean ended
whole_sheet s = do
  _ ← require (leb (length s) 65536) sheet_refusals.too_long
  _ ← require (clean s) sheet_refusals.bad_byte
  require (ended s) sheet_refusals.not_ended

-- A refusal and its line, or the book.
pub data Outcome : Type 0 where
  refused : ℕ → ℕ → Outcome
  written : Book → Outcome

-- Sheet's end: no `start` or no `goal`.
unfoldable pub at_end : Reading → Outcome
at_end r = cond (r.started && eqb r.stage 5) (written r.book) (refused sheet_refusals.incomplete 0)

-- Lines go from the top, the next of them numbered n; then the sheet's end.
unfoldable pub read_lines : ℕ → Reading → List (List ℕ) → Outcome
unfolding line at_end
read_lines n r [] = at_end r
read_lines n r (l ∷ ls) = elim (line r l) [ refuse k ↦ refused k n | accept next ↦ read_lines (suc n) next ls ]

-- A sheet: as a whole, then its lines. A refusal gives the line, from 1, for 13 to 17, else 0.
unfoldable pub read_sheet : List ℕ → Outcome
unfolding whole_sheet lines read_lines
read_sheet s = elim (whole_sheet s) [ refuse k ↦ refused k 0 | accept _ ↦ read_lines 1 empty (lines s) ]
