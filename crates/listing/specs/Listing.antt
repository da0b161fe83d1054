-- The numbers of the call records in a list, by action and then state (request R-10), and the way there. Read by the proofs alone. Assumes nothing.
use Rattle.std.specs.Prelude.{ℕ, ◌+◌, ◌*◌, ◌<◌, ◌≤◌, ◌≡◌, List, ◌⊎◌, length, get_or}
use Rattle.sorting.specs.Shuffled.{Before}
use Rattle.records.specs.Records.{Calls, call_width}
use Rattle.radix.specs.Lines.{line_width, word_of, Below}

-- "By action and then state": the key of call record i.
abbrev pub key_of : Calls → ℕ → ℕ × ℕ
key_of calls i = (calls.action i, calls.state i)

-- The first n places of a list hold their own numbers, and it is 0 past them.
pub record Numbered (n len : ℕ) (list : List ℕ) : Type 0 where
  pub long : length list ≡ len
  pub numbers : (i : ℕ) → i < n → get_or list i 0 ≡ i
  pub past : (i : ℕ) → n ≤ i → get_or list i 0 ≡ 0

-- The first places of the list, one for each call, are every call record number once, action and then state rising; it is 0 past them. Its
-- length is `len`.
pub record CallsListed (calls : Calls) (len : ℕ) (list : List ℕ) : Type 0 where
  pub long : length list ≡ len
  pub numbers : (p : ℕ) → p < calls.count → get_or list p 0 < calls.count
  pub every : (i : ℕ) → i < calls.count → (p : ℕ) × (p < calls.count) × (get_or list p 0 ≡ i)
  pub rising : (p q : ℕ) → p < q → q < calls.count → Before (key_of calls (get_or list p 0)) (key_of calls (get_or list q 0))
  pub past : (p : ℕ) → calls.count ≤ p → get_or list p 0 ≡ 0

-- ---- by way of lines

-- The line of call record i stands at a place: action, state and number; all else stays.
pub record LinePut (calls : List ℕ) (i at : ℕ) (words words' : List ℕ) : Type 0 where
  pub long : length words' ≡ length words
  pub action : get_or words' at 0 ≡ get_or calls (call_width * i) 0
  pub state : get_or words' (at + 1) 0 ≡ get_or calls (call_width * i + 1) 0
  pub number : get_or words' (at + 2) 0 ≡ i
  pub other : (p : ℕ) → (p < at) ⊎ (at + line_width ≤ p) → get_or words' p 0 ≡ get_or words p 0

-- The lines of the first n call records stand from a place on.
pub record Lined (calls : List ℕ) (n at : ℕ) (words words' : List ℕ) : Type 0 where
  pub below : Below at words words'
  pub action : (i : ℕ) → i < n → get_or words' (at + line_width * i) 0 ≡ get_or calls (call_width * i) 0
  pub state : (i : ℕ) → i < n → get_or words' (at + line_width * i + 1) 0 ≡ get_or calls (call_width * i + 1) 0
  pub number : (i : ℕ) → i < n → get_or words' (at + line_width * i + 2) 0 ≡ i

-- The numbers of n lines stand at the head of a list, which is 0 past them.
pub record Taken (words : List ℕ) (at n len : ℕ) (list : List ℕ) : Type 0 where
  pub long : length list ≡ len
  pub numbers : (i : ℕ) → i < n → get_or list i 0 ≡ word_of words at 2 i
  pub past : (i : ℕ) → n ≤ i → get_or list i 0 ≡ 0
