-- Rows of one table told off against those of another, by a flag in a free word of each record of the other. Read by the proofs alone. Assumes
-- nothing.
use Rattle.std.specs.Prelude.{ℕ, ◌+◌, ◌*◌, ◌<◌, ◌≤◌, ◌≡◌, Bool, true, false, List, ◌≢◌, length, get_or, set}

-- A test tells whether P holds.
abbrev pub Whether : Type 0 → Bool → Type 0
Whether P true = P
Whether P false = P → ⊥

-- ---- flags

-- The flag of record j: the word at a place of its own among its `width` words.
abbrev pub flag : ℕ → ℕ → List ℕ → ℕ → ℕ
flag width at words j = get_or words (width * j + at) 0

-- All words but the flags of the first n records stay.
pub record Kept (width at n : ℕ) (words words' : List ℕ) : Type 0 where
  pub long : length words' ≡ length words
  pub other : (p : ℕ) → ((j : ℕ) → j < n → p ≢ width * j + at) → get_or words' p 0 ≡ get_or words p 0

-- The flags of the first n records are 0.
abbrev pub NoFlags : ℕ → ℕ → ℕ → List ℕ → Type 0
NoFlags width at n words = (j : ℕ) → j < n → flag width at words j ≡ 0

-- None of them is 0.
abbrev pub AllFlags : ℕ → ℕ → ℕ → List ℕ → Type 0
AllFlags width at n words = (j : ℕ) → j < n → 0 < flag width at words j

-- The flag of record r was 0 and is v now; or r is none of the first n records, or its flag was set, and all stays.
abbrev pub Marked : ℕ → ℕ → ℕ → ℕ → ℕ → List ℕ → List ℕ → Bool → Type 0
Marked width at n r v words words' true = (r < n) × (flag width at words r ≡ 0) × (words' ≡ set words (width * r + at) v)
Marked width at n r v words words' false = (words' ≡ words) × (r < n → 0 < flag width at words r)

-- The first n records of `width` words stand in the words, and a flag is one of the words of its record.
pub record Flagged (width at n : ℕ) (words : List ℕ) : Type 0 where
  pub inside : at < width
  pub fits : width * n ≤ length words

-- ---- rows, by what each record of two tables stands for
module _ {X : Type 0} where
  -- Every row of the first table stands in the second, every row of the second in the first, and no row of the first stands twice.
  pub record RowForRow (row : ℕ → X) (t : ℕ) (row' : ℕ → X) (e : ℕ) : Type 0 where
    pub held : (i : ℕ) → i < t → (j : ℕ) × (j < e) × (row i ≡ row' j)
    pub all : (j : ℕ) → j < e → (i : ℕ) × (i < t) × (row i ≡ row' j)
    pub once : (i k : ℕ) → i < k → k < t → row i ≢ row k

  -- The record below e with this row, or none of those below e.
  pub record RowFound (a : X) (row' : ℕ → X) (e r : ℕ) : Type 0 where
    pub found : r < e → a ≡ row' r
    pub absent : e ≤ r → (j : ℕ) → j < e → a ≢ row' j

  -- The first i rows of the first table are told off: the flag at the record of each in the second is its number and 1, and no other is set.
  pub record Matched (row : ℕ → X) (i : ℕ) (row' : ℕ → X) (e : ℕ) (flags : ℕ → ℕ) : Type 0 where
    pub each : (k : ℕ) → k < i → (j : ℕ) × (j < e) × (row k ≡ row' j) × (flags j ≡ k + 1)
    pub other : (j : ℕ) → j < e → 0 < flags j → (k : ℕ) × (k < i) × (row k ≡ row' j)

  -- All of them are, or the tables do not hold the same rows.
  abbrev pub ToldOff : (ℕ → X) → ℕ → (ℕ → X) → ℕ → (ℕ → ℕ) → Bool → Type 0
  ToldOff row t row' e flags true = Matched row t row' e flags
  ToldOff row t row' e flags false = RowForRow row t row' e → ⊥
