-- A line of a sheet, read after those above it: 13, 17 and the count part of 14, then its fields by its word. Assumes nothing.
use Rattle.std.specs.Prelude.{ℕ, suc, Bool, false, cond, not, ◌&&◌, ◌||◌, List, [], ◌∷◌, ◌++◌, length, get_or, drop, leb, ltb, eqb}
use Rattle.refusals.specs.Sheet.{line_refusals}
use Rattle.chars.specs.Bytes.{text, HASH, begins}
use Rattle.chars.specs.Pieces.{fields, bare}
use Rattle.chars.specs.Places.{same}
use Rattle.fields.specs.Verdict.{Verdict, refuse, accept, ◌>>=◌, require}
use Rattle.fields.specs.Book.{Book, with_names, with_rule, with_start, with_goal}
use Rattle.fields.specs.Field.{new_name, used_name, step_words, start_names}
use Rattle.lines.specs.declared.Word.{Word}
use Rattle.lines.specs.declared.Word.TheVariants.{Fluent, Action, Rule, Start, Goal, Other}

-- A line's first field: a record word, or another.
unfoldable pub word_of : List ℕ → Word
unfolding same
word_of f =
    cond (same f (text "fluent")) Fluent
    (cond (same f (text "action")) Action
    (cond (same f (text "rule")) Rule
    (cond (same f (text "start")) Start
    (cond (same f (text "goal")) Goal
    Other))))

-- The row of record words: its places.
abbrev pub row : Word → ℕ
row Fluent = 0
row Action = 1
row Rule = 2
row Start = 3
row Goal = 4
row Other = 5

-- The reading of the lines so far: what they say, the place of the first word of the row that the next line may have, and whether a `start`
-- stood above.
abbrev pub Reading : Type 0
Reading = record { book : Book; stage : ℕ; started : Bool }

-- Before the first line nothing is said.
abbrev pub empty : Reading
empty = record { book = record { names = record { fluents = []; actions = [] }; rules = []; start = 0; goal = [] }; stage = 0; started = false }

-- The reading after a line with this word, which made the book: the word may come again, but no second `start` or `goal`.
abbrev pub after : Reading → Word → Book → Reading
after r w book = record { book = book; stage = cond (ltb (row w) 3) (row w) (suc (row w)); started = eqb (row w) 3 || r.started }

-- 65th fluent or action, 257th rule, or more than 16 steps, for a word with n fields after it.
unfoldable pub overfull : Book → Word → ℕ → Bool
overfull b Fluent n = leb 64 (length b.names.fluents)
overfull b Action n = leb 64 (length b.names.actions)
overfull b Rule n = leb 256 (length b.rules) || ltb 17 n
overfull b Start n = false
overfull b Goal n = ltb 16 n
overfull b Other n = false

-- Fluent or action without exactly one name, rule without head.
abbrev pub miscounted : Word → ℕ → Bool
miscounted Fluent n = not (eqb n 1)
miscounted Action n = not (eqb n 1)
miscounted Rule n = eqb n 0
miscounted Start n = false
miscounted Goal n = false
miscounted Other n = false

-- What a line's fields add to the book, by its word.
unfoldable pub record_line : Book → Word → List (List ℕ) → Verdict Book
unfolding new_name used_name step_words start_names
record_line b Fluent fs = do
  name ← new_name b.names (get_or fs 0 [])
  accept (with_names b (b.names.fluents ++ (name ∷ [])) b.names.actions)
record_line b Action fs = do
  name ← new_name b.names (get_or fs 0 [])
  accept (with_names b b.names.fluents (b.names.actions ++ (name ∷ [])))
record_line b Rule fs = do
  head ← used_name b.names.actions (get_or fs 0 [])
  steps ← step_words b.names (drop 1 fs)
  accept (with_rule b head steps)
record_line b Start fs = do
  state ← start_names b.names 0 fs
  accept (with_start b state)
record_line b Goal fs = do
  steps ← step_words b.names fs
  accept (with_goal b steps)
record_line b Other fs = refuse line_refusals.bad_word

-- A line by its word and the fields after it: 13, 17 and the count part of 14 come first, then fields from the left. A record word is not out
-- of order where no line above has a word later in the row, and no `start` or `goal` is the second.
abbrev pub line_of : Reading → Word → List (List ℕ) → Verdict Reading
line_of r w fs = do
  _ ← require (ltb (row w) 5 && leb r.stage (row w)) line_refusals.bad_word
  _ ← require (not (overfull r.book w (length fs))) line_refusals.too_many
  _ ← require (not (miscounted w (length fs))) line_refusals.bad_field
  book ← record_line r.book w fs
  accept (after r w book)

-- A line that is no comment: its first field is its word.
unfoldable pub plain_line : Reading → List ℕ → Verdict Reading
unfolding fields word_of overfull record_line
plain_line r l = line_of r (word_of (get_or (fields l) 0 [])) (drop 1 (fields l))

-- A line: one that starts with `#` is a comment and adds nothing; of any other the CR at its end is no part.
unfoldable pub line : Reading → List ℕ → Verdict Reading
unfolding plain_line bare
line r l = cond (begins HASH l) (accept r) (plain_line r (bare l))
