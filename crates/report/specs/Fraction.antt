-- Fractions in lowest terms (request R-8). Assumes nothing.
use Rattle.std.specs.Prelude.{ℕ, zero, suc, ◌*◌, ◌/◌, ◌%◌, ◌≡◌, ◌≢◌, cond, List, [], ◌∷◌, eqb}
use Rattle.std.specs.Int.{◌∣◌}

-- The greatest common divisor, by Euclid's steps; n of them serve where b is at most n.
unfoldable pub euclid : (n a b : ℕ) → ℕ
euclid zero a b = a
euclid (suc n) a b = cond (eqb b 0) a (euclid n b (a % b))

abbrev pub common : ℕ → ℕ → ℕ
common a b = euclid b a b

-- "An exact fraction in lowest terms, written as two words, numerator before denominator; 0 stands over 1, and a share or mean over
-- nothing is 0 over 0."
unfoldable pub fraction : (n d : ℕ) → List ℕ
fraction n d = cond (eqb d 0) (0 ∷ 0 ∷ []) (n / common n d ∷ d / common n d ∷ [])

-- What lowest terms are, without Euclid: p over q is n over d, and nothing but 1 divides both. The law `lowest` says it of `fraction`, and
-- `lowest_unique` that no other pair has it.
pub record Lowest (n d p q : ℕ) : Type 0 where
  pub exact : p * d ≡ n * q
  pub proper : q ≢ 0
  pub least : (g : ℕ) → g ∣ p → g ∣ q → g ≡ 1
