-- A field of a line: names that are defined or used, steps; the refusals 14, 15 and 16. Assumes nothing.
use Rattle.std.specs.Prelude.{ℕ, ◌+◌, ◌*◌, Bool, true, cond, not, ◌&&◌, List, [], ◌∷◌, ◌++◌, ltb, eqb}
use Rattle.refusals.specs.Sheet.{line_refusals}
use Rattle.steps.specs.State.{State, holds, added}
use Rattle.chars.specs.Bytes.{text, is_name}
use Rattle.chars.specs.Places.{place, among, byte_at}
use Rattle.fields.specs.Verdict.{Verdict, refuse, accept, ◌>>=◌, require}
use Rattle.fields.specs.Book.{Symbols}

-- A field of a line, by 14, 15, 16: whether it is a name or step, whether it is no repetition, whether what it uses is defined.
abbrev pub judged : {A : Type 0} → Bool → Bool → Bool → A → Verdict A
judged formed fresh defined a = do
  _ ← require formed line_refusals.bad_field
  _ ← require fresh line_refusals.repeated
  _ ← require defined line_refusals.undefined
  accept a

-- A name that a line defines.
unfoldable pub new_name : Symbols → List ℕ → Verdict (List ℕ)
unfolding is_name place
new_name b f = judged (is_name f) (not (among f (b.fluents ++ b.actions))) true f

-- The number of a name that a line uses, among the names of its kind.
unfoldable pub used_name : List (List ℕ) → List ℕ → Verdict ℕ
unfolding is_name place
used_name names f = judged (is_name f) true (among f names) (place f names)

-- A name of `start`, with the state of those before it.
unfoldable pub start_name : Symbols → State → List ℕ → Verdict State
unfolding is_name place
start_name b state f =
    judged (is_name f) (not (among f b.fluents && holds state (place f b.fluents))) (among f b.fluents) (added state (place f b.fluents))

-- The state in which all names of `start` hold, fields from the left.
unfoldable pub start_names : Symbols → State → List (List ℕ) → Verdict State
unfolding start_name
start_names b state [] = accept state
start_names b state (f ∷ fs) = do
  next ← start_name b state f
  start_names b next fs

-- A step is `?`, `+`, `-` (query, insert, delete of a fluent), `!` (call) or `~` (denial of a fluent), then a name. The kinds are numbered in
-- this order.
abbrev pub marks : List ℕ
marks = text "?+-!~"

-- The names that a step of this kind uses.
abbrev pub names_of : Symbols → ℕ → List (List ℕ)
names_of b kind = cond (eqb kind 3) b.actions b.fluents

-- Step: a word, 256 times kind plus index.
unfoldable pub step_word : Symbols → List ℕ → Verdict ℕ
unfolding byte_at used_name
step_word b [] = refuse line_refusals.bad_field
step_word b (mark ∷ name) = do
  _ ← require (ltb (byte_at mark marks) 5) line_refusals.bad_field
  index ← used_name (names_of b (byte_at mark marks)) name
  accept (256 * byte_at mark marks + index)

-- The words of a body's steps, fields from the left.
unfoldable pub step_words : Symbols → List (List ℕ) → Verdict (List ℕ)
unfolding step_word
step_words b [] = accept []
step_words b (f ∷ fs) = do
  w ← step_word b f
  ws ← step_words b fs
  accept (w ∷ ws)
