-- Lookups by value: four calls, and lists in order, out of order and bad. Assumes nothing.
use Prim.Native.Nat.{ℕ}
use mathlib.Core.Path.{◌≡◌, refl}
use mathlib.Core.List.{List, [], ◌∷◌}
use Rattle.records.specs.Records.{call_table}
use Rattle.lookup.specs.declared.Found.{Found}
use Rattle.lookup.specs.Lookup.{at_row, no_row, refused, looked_up}
use Rattle.lookup.specs.Walked.{walk, walked}

-- the goal's call, and the calls of action 0 in two states and of action 1
abbrev four : List ℕ
four = 64 ∷ 0 ∷ 0 ∷ 0 ∷ 0 ∷ 1 ∷ 0 ∷ 1 ∷ 2 ∷ 1 ∷ 0 ∷ 2 ∷ []

-- a lookup among them by a list of four places
abbrev among : ℕ → ℕ → ℕ → ℕ → ℕ → ℕ → Found
among a b c d = looked_up four 4 (a ∷ b ∷ c ∷ d ∷ [])

-- ---- a list in order

pub in_the_middle : among 1 2 3 0 0 1 ≡ at_row 2
unfolding looked_up
in_the_middle = refl

pub after_it : among 1 2 3 0 1 0 ≡ at_row 3
unfolding looked_up
after_it = refl

pub the_goal : among 1 2 3 0 64 0 ≡ at_row 0
unfolding looked_up
the_goal = refl

pub no_such_state : among 1 2 3 0 64 1 ≡ no_row
unfolding looked_up
no_such_state = refl

pub no_such_call : among 1 2 3 0 0 2 ≡ no_row
unfolding looked_up
no_such_call = refl

-- the same by a walk
pub walked_goal : walked (call_table four 4) (64, 0) ≡ at_row 0
unfolding walk
walked_goal = refl

pub walked_none : walked (call_table four 4) (0, 2) ≡ no_row
unfolding walk
walked_none = refl

-- ---- counts and lengths

pub no_calls : looked_up [] 0 [] 0 0 ≡ no_row
unfolding looked_up
no_calls = refl

pub over_room : looked_up four 5 (1 ∷ 2 ∷ 3 ∷ 0 ∷ []) 0 0 ≡ refused 40
unfolding looked_up
over_room = refl

-- 40 comes before 35
pub over_both : looked_up four 5 [] 0 0 ≡ refused 40
unfolding looked_up
over_both = refl

pub short_list : looked_up four 4 (1 ∷ 2 ∷ 3 ∷ []) 0 0 ≡ refused 35
unfolding looked_up
short_list = refl

-- ---- bad places, refused where they are read

pub bad_place : among 1 2 4 0 0 1 ≡ refused 35
unfolding looked_up
bad_place = refl

pub not_read : among 9 2 3 0 64 0 ≡ at_row 0
unfolding looked_up
not_read = refl

pub read_at_last : among 9 2 3 0 0 0 ≡ refused 35
unfolding looked_up
read_at_last = refl

-- a list out of order gives what the procedure gives
pub out_of_order : among 3 2 1 0 0 0 ≡ at_row 1
unfolding looked_up
out_of_order = refl
