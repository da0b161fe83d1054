-- A word of 64 bits as four quarters: numbers below 65,536, the lowest first. Assumes nothing.
use Rattle.std.specs.Prelude.{ℕ, ◌/◌, ◌%◌, ◌^◌, ◌<◌, ◌≡◌, List, ◌≢◌, length, get_or}

-- Quarter j of a word.
unfoldable pub quarter : ℕ → ℕ → ℕ
quarter word j = word / 65536 ^ j % 65536

-- A word with v for its quarter j.
pub record Changed (word j v word' : ℕ) : Type 0 where
  pub here : quarter word' j ≡ v
  pub beside : (k : ℕ) → k < 4 → k ≢ j → quarter word' k ≡ quarter word k

-- Quarter j of word i is now v; all else stays.
pub record QuarterPut (words : List ℕ) (i j v : ℕ) (words' : List ℕ) : Type 0 where
  pub long : length words' ≡ length words
  pub changed : Changed (get_or words i 0) j v (get_or words' i 0)
  pub other : (p : ℕ) → p ≢ i → get_or words' p 0 ≡ get_or words p 0
