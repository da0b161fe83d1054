-- Inner contracts: the parts of two sheets, word by word, and what a merge leaves. Assumes nothing.
use Rattle.std.specs.Prelude.{◌≡◌, ℕ, ◌+◌, ◌-◌, ◌≤◌, ltb, cond, ◌||◌, List, ◌++◌, length, Result, Ok, Err}
use Rattle.refusals.specs.declared.Refusal.{Refusal}
use Rattle.refusals.specs.Number.{number_of}
use Rattle.refusals.specs.Sheet.{line_refusals}
use Rattle.refusals.specs.Text.{text_refusals}
use Rattle.chars.specs.Bytes.{text}
use Rattle.chars.specs.Pieces.{lines}
use Rattle.chars.specs.Places.{meets}
use Rattle.fields.specs.Book.{Book}
use Rattle.lines.specs.Reader.{read_sheet, refused}
use Rattle.sheet.specs.declared.Sheet.{Sheet}
use Rattle.sheet.specs.Result.{result_of}
use Rattle.writer.specs.Text.{text_of}
use Rattle.parts.specs.declared.Word.{Word}
use Rattle.parts.specs.declared.Layout.{Layout}
use Rattle.parts.specs.Parts.{Inside, Grows, parts_from, section}
use Rattle.parts.specs.Texts.{text_in, Ordered}
use Rattle.merge.specs.declared.Fault.{Fault}
use Rattle.merge.specs.declared.Joined.{Joined}
use Rattle.merge.specs.Joined.{together, both_books}
use Rattle.merge.specs.Merge.{faulty, joins, merge_of}

-- The list has the parts of a word: the second's, the first's, and behind these the new ones of the second.
pub record Holds (u list : List ℕ) (w : Word) (ours theirs : List (List ℕ)) : Type 0 where
  pub order : (w.lo ≤ w.own) × (w.own ≤ w.new) × (w.new ≤ w.end)
  pub second : parts_from u list w.lo (w.own - w.lo) ≡ theirs
  pub first : parts_from u list w.own (w.new - w.own) ≡ ours
  pub both : parts_from u list w.own (w.end - w.own) ≡ together ours theirs

-- From a list with n parts to one that has those of a word too.
pub record Adds (cut : ℕ) (u list : List ℕ) (n : ℕ) (list' : List ℕ) (w : Word) (ours theirs : List (List ℕ)) : Type 0 where
  pub from : w.lo ≡ n
  pub holds : Holds u list' w ours theirs
  pub more : List (List ℕ)
  pub grows : Grows cut u list n list' w.end more
  pub size : length more ≤ length theirs + (length ours + length theirs)

-- What stands behind the words of an accepted sheet is not too much.
pub record Few (s : List ℕ) : Type 0 where
  pub short : length s ≤ 65536
  pub fluents : length (section (text "fluent") (lines s)) ≤ 64
  pub actions : length (section (text "action") (lines s)) ≤ 64
  pub rules : length (section (text "rule") (lines s)) ≤ 256
  pub goal : length (section (text "goal") (lines s)) ≤ 1

-- The list has the parts of all words.
pub record Laid (s t list : List ℕ) (l : Layout) : Type 0 where
  pub fluents : Holds (s ++ t) list l.fluents (section (text "fluent") (lines s)) (section (text "fluent") (lines t))
  pub actions : Holds (s ++ t) list l.actions (section (text "action") (lines s)) (section (text "action") (lines t))
  pub rules : Holds (s ++ t) list l.rules (section (text "rule") (lines s)) (section (text "rule") (lines t))
  pub goal : parts_from (s ++ t) list l.rules.end (l.end - l.rules.end) ≡ section (text "goal") (lines s)
  pub inside : Inside (length s) (s ++ t) list l.end
  pub order : (l.fluents.end ≤ l.end) × (l.actions.end ≤ l.end) × (l.rules.end ≤ l.end) × (l.end ≤ 1153)

-- 70 or 17 of the parts of the words, or 0.
abbrev pub fault_of : List (List ℕ) → List (List ℕ) → List (List ℕ) → List (List ℕ) → List (List ℕ) → List (List ℕ) → ℕ
fault_of fluents fluents' actions actions' rules rules' =
    cond (meets fluents actions' || meets actions fluents') text_refusals.both_kinds
    (cond (ltb 64 (length (together fluents fluents'))
    || (ltb 64 (length (together actions actions')) || ltb 256 (length (together rules rules')))) line_refusals.too_many 0)

-- What two sheets that can be merged leave in the list.
pub record Joining (s t list : List ℕ) (r : Joined) : Type 0 where
  pub ours : Book
  pub theirs : Book
  pub joined : merge_of s t ≡ joins ours theirs
  pub is : text_in (s ++ t) list r.layout r.held ≡ text_of (both_books ours theirs)
  pub size : r.size ≡ length (text_of (both_books ours theirs))
  pub ordered : Ordered r.layout r.held
  pub inside : Inside (length s) (s ++ t) list r.held
  pub fluents : Holds (s ++ t) list r.layout.fluents (section (text "fluent") (lines s)) (section (text "fluent") (lines t))

-- A refusal of the two sheets together.
abbrev pub of_both : Refusal → Fault
of_both refusal = record { refusal = number_of refusal; sheet = 0; line = 0 }

-- What a sheet says, or its own fault.
abbrev pub Told : (number : ℕ) (s : List ℕ) → Result Sheet Fault → Type 0
Told number s (Ok told) = (told ≡ result_of 4608 (read_sheet s)) × (told.refusal ≡ 0)
Told number s (Err fault) = (read_sheet s ≡ refused fault.refusal fault.line) × (fault.sheet ≡ number)

-- What two sheets say together, or why they are not merged.
abbrev pub Answered : (s t list : List ℕ) → Result Joined Fault → Type 0
Answered s t list (Ok r) = Joining s t list r
Answered s t list (Err fault) = merge_of s t ≡ faulty fault.refusal fault.sheet fault.line
