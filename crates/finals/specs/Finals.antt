-- The final states of one call record's answers, as a list, and the way to their order. Assumes nothing.
use Rattle.std.specs.Prelude.{ℕ, zero, suc, ◌+◌, ◌*◌, ◌<◌, ◌≤◌, ◌≡◌, cond, ◌↔◌, length, get_or, drop, eqb}
use mathlib.Core.List.{List, [], ◌∷◌, ◌++◌, Memᴰ}
use Rattle.steps.specs.State.{State}
use Rattle.steps.specs.Counting.{Rising}
use Rattle.records.specs.Records.{Calls, Answers}
use Rattle.records.specs.Storage.{HeldAnswer, FindCall}
use Rattle.radix.specs.Lines.{line_width, word_of, Below}

-- Of the first n records those of this call record, in their order.
unfoldable pub finals_below : Answers → ℕ → ℕ → List State
finals_below answers row zero = []
finals_below answers row (suc x) = finals_below answers row x ++ cond (eqb (answers.call x) row) (answers.final x ∷ []) []

-- The list begins with the final states of all answers of the row, rising; what is past them is as it was.
pub record FinalsListed (answers : Answers) (row : ℕ) (list list' : List ℕ) : Type 0 where
  pub finals : List State
  pub rising : Rising finals
  pub members : (f : State) → Memᴰ f finals ↔ HeldAnswer answers row f
  pub is : list' ≡ finals ++ drop (length finals) list

-- Of the call that is sought so many final states are found; they are listed if the list has places for them, else it stays.
pub record CallFinals (calls : Calls) (answers : Answers) (a : ℕ) (D : State) (found : ℕ) (list list' : List ℕ) : Type 0 where
  pub row : ℕ
  pub sought : FindCall calls a D row
  pub counted : found ≡ length (finals_below answers row answers.count)
  pub short : length list < found → list' ≡ list
  pub listed : found ≤ length list → FinalsListed answers row list list'

-- ---- by way of lines

-- The lines of the first n words of a list stand from a place on: 0 and the word.
pub record Lined (list : List ℕ) (n at : ℕ) (words words' : List ℕ) : Type 0 where
  pub below : Below at words words'
  pub first : (i : ℕ) → i < n → get_or words' (at + line_width * i) 0 ≡ 0
  pub second : (i : ℕ) → i < n → get_or words' (at + line_width * i + 1) 0 ≡ get_or list i 0

-- The second words of n lines stand at the head of a list, which stays past them.
pub record Taken (words : List ℕ) (at n : ℕ) (list list' : List ℕ) : Type 0 where
  pub long : length list' ≡ length list
  pub words_are : (i : ℕ) → i < n → get_or list' i 0 ≡ word_of words at 1 i
  pub past : (i : ℕ) → n ≤ i → get_or list' i 0 ≡ get_or list i 0
