-- Numbers of three bytes, 65,536 of them: the two lowest bytes of each stand first, number after number, and behind them all the third byte of
-- each. Of two bytes the lower comes first. Assumes nothing.
use Rattle.std.specs.Prelude.{ℕ, zero, suc, ◌+◌, ◌-◌, ◌*◌, ◌%◌, ◌^◌, ◌<◌, ◌≤◌, min, ◌≡◌, List, [], ◌∷◌, ◌⊎◌, length, get_or}

-- What each number is below: 2 to the power of 24.
abbrev pub limit : ℕ
limit = 16777216

-- The number that w bytes from place p on make up.
unfoldable pub number : ℕ → List ℕ → ℕ → ℕ
number zero bytes p = 0
number (suc w) bytes p = number w bytes p + 256 ^ w * get_or bytes (p + w) 0

-- The w lowest bytes of a value stand from place p on; all other bytes stay.
pub record Kept (w : ℕ) (bytes : List ℕ) (p value : ℕ) (bytes' : List ℕ) : Type 0 where
  pub long : length bytes' ≡ length bytes
  pub here : number w bytes' p ≡ value % 256 ^ w
  pub other : (q : ℕ) → (q < p) ⊎ (p + w ≤ q) → get_or bytes' q 0 ≡ get_or bytes q 0

-- f 0, f 1, and so on, n of them.
unfoldable pub tabulate : ℕ → (ℕ → ℕ) → List ℕ
tabulate zero f = []
tabulate (suc n) f = f 0 ∷ tabulate n (λ i. f (suc i))

-- Number n, by its two parts.
abbrev pub joined : List ℕ → ℕ → ℕ
joined bytes n = number 2 bytes (2 * n) + 65536 * number 1 bytes (131072 + n)

-- The numbers that bytes hold, as many as have all their bytes.
unfoldable pub numbers : List ℕ → List ℕ
numbers bytes = tabulate (min 65536 (length bytes - 131072)) (joined bytes)

-- Bytes that hold 65,536 numbers, each of them 0.
pub record Zeros (bytes : List ℕ) : Type 0 where
  pub long : length (numbers bytes) ≡ 65536
  pub zero_at : (n : ℕ) → ◌≡◌ {A = ℕ} (get_or (numbers bytes) n 0) 0
