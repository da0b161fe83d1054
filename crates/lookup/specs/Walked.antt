-- Finding a call by a walk of the table, and the lists with which a lookup finds the same (request R-10). Assumes nothing.
use Rattle.std.specs.Prelude.{ℕ, zero, suc, ◌<◌, ◌≡◌, cond, true, List, get_or}
use Rattle.records.specs.Records.{Calls}
use Rattle.canonical.specs.Order.{Key, before, same}
use Rattle.lookup.specs.declared.Found.{Found}
use Rattle.lookup.specs.Lookup.{at_row, no_row, key_of}

module _ (calls : Calls) where
  -- Of the n rows from number i on, in turn, the first with that action and state, or none.
  unfoldable pub walk : Key → ℕ → ℕ → Found
  walk asked i zero = no_row
  walk asked i (suc n) = cond (same asked (key_of calls i)) (at_row i) (walk asked (suc i) n)

  -- "A walk of the table": the least row with that action and state, or none.
  abbrev pub walked : Key → Found
  walked asked = walk asked 0 calls.count

  -- "The list's first places, one for each call, are every record number once with action and then state strictly rising": at each stands a
  -- record number, each record number stands at one, and the keys rise, so that none stands at two.
  pub record InOrder (list : List ℕ) : Type 0 where
    pub numbers : (p : ℕ) → p < calls.count → get_or list p 0 < calls.count
    pub every : (row : ℕ) → row < calls.count → (p : ℕ) × (p < calls.count) × (get_or list p 0 ≡ row)
    pub rising : (p q : ℕ) → p < q → q < calls.count → before (key_of calls (get_or list p 0)) (key_of calls (get_or list q 0)) ≡ true
