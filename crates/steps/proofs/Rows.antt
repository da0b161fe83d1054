-- The rows of a table as a list: what rows by their numbers below n say of `Distinct`, `Exactly` and `Outnumbers`. Assumes nothing.
use Prim.Native.Nat.{ℕ, zero, suc, ◌<◌}
use native.Mathlib.Omega.{arith}
use mathlib.Core.Path.{◌≡◌, refl, sym, ◌∙◌, ap}
use mathlib.Core.List.Memᴰ
use mathlib.Core.List.{List, [], ◌∷◌, Memᴰ}
use mathlib.Core.Logic.{◌≢◌, ◌↔◌}
use native.Mathlib.Decide.{ℕ_discrete}
use lib.ListN.{length}
use Rattle.steps.specs.Counting.{Distinct, none, more, Exactly, Outnumbers, rows}
use Rattle.steps.proofs.Counting.{full_outnumbers, exactly_outnumbers, exactly_long}

module _ {X : Type 0} (row : ℕ → X) where
  pub rows_length : (n : ℕ) → length (rows row n) ≡ n
  unfolding rows
  rows_length zero = refl
  rows_length (suc n) = ap suc (rows_length n)

  pub rows_out : (n : ℕ) (x : X) → Memᴰ x (rows row n) → (i : ℕ) × (i < n) × (x ≡ row i)
  unfolding rows
  rows_out zero x m = absurd (Memᴰ.not-nil m)
  rows_out (suc n) x (Memᴰ.head e) = (n, omega arith, e)
  rows_out (suc n) x (Memᴰ.tail m) = let (i, l, e) = rows_out n x m in (i, omega arith, e)

  pub rows_in : (n i : ℕ) (x : X) → i < n → x ≡ row i → Memᴰ x (rows row n)
  unfolding rows
  rows_in zero i x l e = absurd (omega arith)
  rows_in (suc n) i x l e = go (ℕ_discrete i n) (rows_in n i x)
    where
      go : Dec (i ≡ n) → (i < n → x ≡ row i → Memᴰ x (rows row n)) → Memᴰ x (row n ∷ rows row n)
      go (yes p) k = Memᴰ.head (e ∙ ap row p)
      go (no p) k = Memᴰ.tail (k (omega arith) e)

  rows_distinct : (n : ℕ) → ((i j : ℕ) → i < j → j < n → row i ≢ row j) → Distinct (rows row n)
  unfolding rows
  rows_distinct zero new = none
  rows_distinct (suc n) new = more (λ y m. fresh y (rows_out n y m)) (rows_distinct n (λ i j l k. new i j l (omega arith)))
    where
      fresh : (y : X) → (i : ℕ) × (i < n) × (y ≡ row i) → y ≢ row n
      fresh y (i, l, e) q = new i n l (omega arith) (sym e ∙ q)

  module _ (P : X → Type 0) (n : ℕ) (new : (i j : ℕ) → i < j → j < n → row i ≢ row j) (sound : (i : ℕ) → i < n → P (row i)) where
    each : (x : X) → (i : ℕ) × (i < n) × (x ≡ row i) → P x
    each x (i, l, e) = rw e (sound i l)

    -- a table that holds each thing of P once holds exactly P
    pub table_exactly : ((x : X) → P x → (i : ℕ) × (i < n) × (x ≡ row i)) → Exactly P (rows row n)
    table_exactly complete = record {
      once = rows_distinct n new;
      members = λ x. (λ m. each x (rows_out n x m), λ h. (let (i, l, e) = complete x h in rows_in n i x l e));
    }

    -- a table of things of P that is full, and one more: P outnumbers the room
    pub table_full : (y : X) → P y → ((i : ℕ) → i < n → row i ≢ y) → Outnumbers P n
    table_full y h away = rw rows_length at (full_outnumbers P (rows row n) y (rows_distinct n new) (λ x m. each x (rows_out n x m)) h (λ x m. other x (rows_out n x m)))
      where
        other : (x : X) → (i : ℕ) × (i < n) × (x ≡ row i) → x ≢ y
        other x (i, l, e) q = away i l (sym e ∙ q)

-- a table that holds exactly P
module _ {X : Type 0} {P : X → Type 0} (row : ℕ → X) (n : ℕ) (e : Exactly P (rows row n)) where
  pub row_is : (i : ℕ) → i < n → P (row i)
  row_is i l = (e.members (row i)).0 (rows_in row n i (row i) l refl)

  -- P outnumbers just the numbers below its count of records.
  pub rows_outnumber : (k : ℕ) → Outnumbers P k ↔ (k < n)
  rows_outnumber k = rw (rows_length row) at (exactly_outnumbers k e)

  -- Any other such table has as many records.
  pub rows_many : (other : ℕ → X) (m : ℕ) → Exactly P (rows other m) → n ≡ m
  rows_many other m f = rw (rows_length row, rows_length other) at (exactly_long e f)
