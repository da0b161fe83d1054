-- Finding a call by the list of call record numbers (request R-10): what a lookup answers, for every input. Assumes nothing.
use Rattle.std.specs.Prelude.{ℕ, zero, suc, ◌+◌, ◌-◌, ◌/◌, cond, List, get_or, length, ltb}
use Rattle.refusals.specs.Path.{path_refusals}
use Rattle.refusals.specs.Lookup.{lookup_refusals}
use Rattle.records.specs.Records.{Calls, room, call_table, call_width}
use Rattle.canonical.specs.Order.{Key, before, same}
use Rattle.lookup.specs.declared.Found.{Found}

-- The row is found; there is none; the lookup is refused.
abbrev pub at_row : ℕ → Found
at_row row = record { refusal = 0; found = 1; row = row }

abbrev pub no_row : Found
no_row = record { refusal = 0; found = 0; row = 0 }

abbrev pub refused : ℕ → Found
refused number = record { refusal = number; found = 0; row = 0 }

-- "By action and then state": the key of a row.
abbrev pub key_of : Calls → ℕ → Key
key_of calls row = (calls.action row, calls.state row)

-- "Of the calls' places still left the one with half of them, rounded down, before it": they are the places from `low` on, before `high`.
abbrev pub middle : ℕ → ℕ → ℕ
middle low high = low + (high - low) / 2

module _ (calls : Calls) (list : List ℕ) (asked : Key) where
  -- A lookup reads that place of the list, 35 if it is not below the call count, "and goes on before or after that place, by action and then
  -- state, until the row is found or no place is left". Each turn leaves fewer places: as many turns as places are always enough.
  unfoldable pub look : ℕ → ℕ → ℕ → Found
  look zero low high = no_row
  look (suc turns) low high =
      let place = middle low high in
      let row = get_or list place 0 in
      cond (ltb low high)
      (cond (ltb row calls.count)
      (cond (same asked (key_of calls row)) (at_row row)
      (cond (before asked (key_of calls row)) (look turns low place) (look turns (place + 1) high)))
      (refused lookup_refusals.bad_call_list))
      no_row

-- 40: the call count is over the room. Then 35: the list has fewer places than there are calls, or a place read is bad.
unfoldable pub looked_up : List ℕ → ℕ → List ℕ → ℕ → ℕ → Found
unfolding look
looked_up calls count list action state =
    cond (ltb (room call_width (length calls)) count) (refused path_refusals.bad_record_count)
    (cond (ltb (length list) count) (refused lookup_refusals.bad_call_list)
    (look (call_table calls count) list (action, state) count 0 count))
