-- Marks of a place 0 to 15 and a call record, as bits of one word for each record, under the number of the walk that set them: a word of an
-- earlier walk holds no mark, so a walk begins without clearing any. Read by the proofs alone. Assumes nothing.
use Rattle.std.specs.Prelude.{ℕ, ◌+◌, ◌*◌, ◌/◌, ◌^◌, ◌<◌, ◌≤◌, ◌≡◌, Bool, true, false, cond, List, ◌⊎◌, ◌≢◌, length, get_or, eqb}
use Rattle.steps.specs.State.{bit}
use Rattle.records.specs.Records.{call_width}
use Rattle.desk.specs.Desk.{round_unit, mark_words}

-- The walk has marked place q of call record r.
pub record Mark (marks : ℕ → ℕ) (walk q r : ℕ) : Type 0 where
  pub small : q < 16
  pub stamp : marks r / 65536 ≡ walk
  pub held : bit (marks r) q ≡ 1

-- No word is of a later walk.
pub record Stamped (marks : ℕ → ℕ) (walk : ℕ) : Type 0 where
  pub early : (r : ℕ) → marks r / 65536 ≤ walk
  pub few : walk < 65536

-- The word of a record, as the walk sees it: without the marks of earlier walks.
unfoldable pub word_in : (ℕ → ℕ) → ℕ → ℕ → ℕ
word_in marks walk r = cond (eqb (marks r / 65536) walk) (marks r) (walk * 65536)

-- The words with one mark more.
unfoldable pub with_mark : (ℕ → ℕ) → ℕ → ℕ → ℕ → ℕ → ℕ
with_mark marks walk q r i = cond (eqb i r) (word_in marks walk r + 2 ^ q) (marks i)

-- Whether a place is marked.
abbrev pub Marked : (ℕ → ℕ) → ℕ → ℕ → ℕ → Bool → Type 0
Marked marks walk q r true = Mark marks walk q r
Marked marks walk q r false = ¬ Mark marks walk q r

-- Stamped words among which the walk has no mark.
pub record Fresh (marks : ℕ → ℕ) (walk : ℕ) : Type 0 where
  pub stamped : Stamped marks walk
  pub unmarked : (q r : ℕ) → ¬ Mark marks walk q r

-- ---- in the words of the call table
-- Only marks differ, and only those of the first n records.
pub record MarksAlone (n : ℕ) (words words' : List ℕ) : Type 0 where
  pub long : length words' ≡ length words
  pub above : (i : ℕ) → get_or words' (call_width * i) 0 / round_unit ≡ get_or words (call_width * i) 0 / round_unit
  pub states : (i : ℕ) → get_or words' (call_width * i + 1) 0 ≡ get_or words (call_width * i + 1) 0
  pub thirds : (i : ℕ) → get_or words' (call_width * i + 2) 0 ≡ get_or words (call_width * i + 2) 0
  pub past : (p : ℕ) → call_width * n ≤ p → get_or words' p 0 ≡ get_or words p 0

-- Record r has this word of marks, the others have those they had.
pub record MarksPut (words : List ℕ) (r word : ℕ) (words' : List ℕ) : Type 0 where
  pub here : mark_words words' r ≡ word
  pub other : (i : ℕ) → i ≢ r → mark_words words' i ≡ mark_words words i

-- The records from n₀ up to n have no marks, of any walk; those of the others stay.
pub record Unmarked (n₀ n : ℕ) (words words' : List ℕ) : Type 0 where
  pub alone : MarksAlone n words words'
  pub none : (i : ℕ) → n₀ ≤ i → i < n → mark_words words' i ≡ 0
  pub kept : (i : ℕ) → (i < n₀) ⊎ (n ≤ i) → mark_words words' i ≡ mark_words words i
