-- Words that are all 0. Assumes nothing.
use Prim.Native.Nat.{ℕ}
use native.Mathlib.Omega.{arith}
use native.Mathlib.Nat.{mul-zero}
use native.Mathlib.Decide.{dec_lt}
use mathlib.Core.Path.{◌≡◌, sym, ap, ◌∙◌}
use mathlib.Core.List.{List}
use lib.ListN.{length, get_or, replicate, length-replicate, get_or-replicate, get_or-eq_default}
use Rattle.records.specs.Storage.{Stored}

pub zeros_at : (n i : ℕ) → ◌≡◌ {A = ℕ} (get_or (replicate n 0) i 0) 0
zeros_at n i = elim (dec_lt i n) [ yes l ↦ get_or-replicate n i 0 0 l | no m ↦ get_or-eq_default (replicate n 0) 0 (omega (arith, length-replicate {A = ℕ} n 0)) ]

-- the same of words that are said to be all 0
pub zero_at : (words : List ℕ) → words ≡ replicate (length words) 0 → (i : ℕ) → get_or words i 0 ≡ 0
zero_at words e i = ap (λ (w : List ℕ). get_or w i 0) e ∙ zeros_at (length words) i

-- words that are all 0 store no record
pub zeros_stored : (width : ℕ) (words : List ℕ) → words ≡ replicate (length words) 0 → Stored width words 0
zeros_stored width words e = record { fits = rw mul-zero (omega arith); most = omega arith; past = λ i l. zero_at words e i }

pub all_zero : {words : List ℕ} (n : ℕ) → words ≡ replicate n 0 → words ≡ replicate (length words) 0
all_zero n e = e ∙ ap (λ (k : ℕ). replicate k 0) (sym (ap length e ∙ length-replicate {A = ℕ} n 0))

pub zero_long : {words : List ℕ} (n : ℕ) → words ≡ replicate n 0 → length words ≡ n
zero_long n e = ap length e ∙ length-replicate {A = ℕ} n 0
