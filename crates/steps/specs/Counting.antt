-- Lists that hold exactly the things that satisfy a predicate, each once; what outnumbers a number; rising lists. Assumes nothing.
use Rattle.std.specs.Prelude.{ℕ, zero, suc, ◌+◌, ◌<◌, ◌≡◌, ◌↔◌, ◌≢◌, length}
use mathlib.Core.List.{List, [], ◌∷◌, Memᴰ}

module _ {A : Type 0} where
  -- No member stands twice.
  pub data Distinct : List A → Type 0 where
    none : Distinct []
    more : {x : A} {xs : List A} → ((y : A) → Memᴰ y xs → y ≢ x) → Distinct xs → Distinct (x ∷ xs)

  -- The list holds exactly the things that satisfy P, each once: there are as many of them as it is long.
  pub record Exactly (P : A → Type 0) (xs : List A) : Type 0 where
    pub once : Distinct xs
    pub members : (x : A) → Memᴰ x xs ↔ P x

  -- "Outnumber" (refusal 30): a list without repeats holds n + 1 things that satisfy P.
  abbrev pub Outnumbers : (A → Type 0) → ℕ → Type 0
  Outnumbers P n = (xs : List A) × Distinct xs × ((x : A) → Memᴰ x xs → P x) × (length xs ≡ n + 1)

  -- The rows of a table of n records, by what record i stands for.
  unfoldable pub rows : (ℕ → A) → ℕ → List A
  rows row zero = []
  rows row (suc n) = row n ∷ rows row n

-- Demand 2: the list rises and has no repeats. Each number is less than all behind it.
pub data Rising : List ℕ → Type 0 where
  rising_nil : Rising []
  rising_cons : {x : ℕ} {xs : List ℕ} → ((y : ℕ) → Memᴰ y xs → x < y) → Rising xs → Rising (x ∷ xs)
