-- Inner contracts: where a byte is, where a line, a line without its CR, or a field ends. Assumes nothing.
use Rattle.std.specs.Prelude.{◌≡◌, ℕ, suc, ◌+◌, ◌≤◌, Bool, true, false, cond, List, [], ◌∷◌, leb, eqb, length, drop}
use Rattle.std.proofs.Math.Seq.{slice}
use Rattle.chars.specs.Pieces.{lines, bare, fields}

-- The index of what is sought: here, or one further than its index among the rest.
unfoldable pub index_after : Bool → ℕ → ℕ
index_after true n = 0
index_after false n = suc n

-- The index of the first b, counted from 0; the list's length where it is not there.
unfoldable pub index_of : ℕ → List ℕ → ℕ
unfolding index_after
index_of b [] = 0
index_of b (x ∷ xs) = index_after (eqb x b) (index_of b xs)

-- The fields from p on of the line of s that ends at e; none where p is past e.
unfoldable pub fields_from : ℕ → ℕ → List ℕ → List (List ℕ)
unfolding fields
fields_from p e s = cond (leb p e) (fields (slice p e s)) []

-- The line from `at` ends at r: the lines from there on are that line and those after its LF.
pub record LineEnd (s : List ℕ) (at r : ℕ) : Type 0 where
  pub from : at ≤ r
  pub within : r ≤ length s
  pub cut : lines (drop at s) ≡ slice at r s ∷ lines (drop (r + 1) s)

-- The line from `at` up to e ends at r without the CR at its end.
pub record BareEnd (s : List ℕ) (at e r : ℕ) : Type 0 where
  pub from : at ≤ r
  pub within : r ≤ e
  pub cut : bare (slice at e s) ≡ slice at r s

-- The field from `at` ends at r, in a line that ends at e: the fields from there on are that field and those after its tab.
pub record FieldEnd (s : List ℕ) (at e r : ℕ) : Type 0 where
  pub from : at ≤ r
  pub within : r ≤ e
  pub cut : fields_from at e s ≡ slice at r s ∷ fields_from (r + 1) e s
