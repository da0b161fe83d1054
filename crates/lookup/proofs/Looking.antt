-- A lookup, one turn at a time: what is left of it is told by the places that are left. Assumes nothing.
use Prim.Native.Nat.{ℕ, zero, suc, ◌+◌, ◌-◌, ◌<◌, ◌≤◌}
use native.Mathlib.Omega.{arith}
use native.Mathlib.Decide.{dec_lt}
use mathlib.Core.Path.{◌≡◌, refl, sym, ap₂, ◌∙◌}
use mathlib.Core.Bool.{Bool, true, false, cond}
use mathlib.Core.List.{List}
use lib.ListN.{get_or}
use lib.Dec.{ltb}
use borrow.Author.Tests.{lt-ltb, le-ltb}
use Rattle.refusals.specs.Lookup.{lookup_refusals}
use Rattle.records.specs.Records.{Calls}
use Rattle.canonical.specs.Order.{Key, before, same}
use Rattle.lookup.specs.declared.Found.{Found}
use Rattle.lookup.specs.Lookup.{at_row, no_row, refused, key_of, middle, look}

-- what a test says of an action and a state, it says of the row that they are of
pub tested : (calls : Calls) (row : ℕ) (test : Key → Bool) {action state : ℕ} {told is : Bool}
    → action ≡ calls.action row → state ≡ calls.state row → told ≡ test (action, state) → told ≡ is → test (key_of calls row) ≡ is
tested calls row test a s t e = sym (ap₂ (λ (x y : ℕ). test (x, y)) a s) ∙ sym t ∙ e

module _ (calls : Calls) (list : List ℕ) (asked : Key) where
  -- a lookup with no place left, and one with a place left
  still : (turns low high : ℕ) → high ≤ low → look calls list asked turns low high ≡ no_row
  unfolding look
  still zero low high h = refl
  still (suc turns) low high h = rw (le-ltb low high h) refl

  -- turns that are enough
  enough : (t u low high : ℕ) → high - low ≤ t → high - low ≤ u → look calls list asked t low high ≡ look calls list asked u low high
  unfolding look
  enough zero u low high a b = sym (still u low high (omega arith))
  enough (suc t) zero low high a b = still (suc t) low high (omega arith)
  enough (suc t) (suc u) low high a b = by (dec_lt low high) (enough t u low (middle low high)) (enough t u (middle low high + 1) high)
    where
      -- `from` and `to` lie before the place and after it
      Agree : ℕ → ℕ → Type 0
      Agree from to = to - from ≤ t → to - from ≤ u → look calls list asked t from to ≡ look calls list asked u from to

      by : Dec (low < high) → Agree low (middle low high) → Agree (middle low high + 1) high
          → look calls list asked (suc t) low high ≡ look calls list asked (suc u) low high
      by (no n) p q = still (suc t) low high (omega arith) ∙ sym (still (suc u) low high (omega arith))
      by (yes l) p q = rw (p (omega arith) (omega arith), q (omega arith) (omega arith)) refl

  -- The places from `low` on, before `high`, with just as many turns.
  abbrev pub look_in : ℕ → ℕ → Found
  look_in low high = look calls list asked (high - low) low high

  pub in_all : (n : ℕ) → look_in 0 n ≡ look calls list asked n 0 n
  in_all n = enough (n - 0) n 0 n (omega arith) (omega arith)

  abbrev pub read : ℕ → ℕ → ℕ
  read low high = get_or list (middle low high) 0

  pub none_left : (low high : ℕ) → high ≤ low → look_in low high ≡ no_row
  none_left low high h = still (high - low) low high h

  module _ (low high : ℕ) (left : low < high) where
    -- one turn: the recursion of `look`, without its turns
    pub turn : look_in low high ≡
        cond (ltb (read low high) calls.count)
        (cond (same asked (key_of calls (read low high))) (at_row (read low high))
        (cond (before asked (key_of calls (read low high))) (look_in low (middle low high)) (look_in (middle low high + 1) high)))
        (refused lookup_refusals.bad_call_list)
    unfolding look
    turn =
        enough (high - low) (suc (high - low)) low high (omega arith) (omega arith)
        ∙ rw (
          lt-ltb low high left,
          enough (high - low) (middle low high - low) low (middle low high) (omega arith) (omega arith),
          enough (high - low) (high - (middle low high + 1)) (middle low high + 1) high (omega arith) (omega arith),
        ) refl

    module _ (good : read low high < calls.count) where
      pub found_there : same asked (key_of calls (read low high)) ≡ true → look_in low high ≡ at_row (read low high)
      found_there s = turn ∙ rw (lt-ltb (read low high) calls.count good, s) refl

      pub on_before : same asked (key_of calls (read low high)) ≡ false → before asked (key_of calls (read low high)) ≡ true
          → look_in low high ≡ look_in low (middle low high)
      on_before s b = turn ∙ rw (lt-ltb (read low high) calls.count good, s, b) refl

      pub on_after : same asked (key_of calls (read low high)) ≡ false → before asked (key_of calls (read low high)) ≡ false
          → look_in low high ≡ look_in (middle low high + 1) high
      on_after s b = turn ∙ rw (lt-ltb (read low high) calls.count good, s, b) refl

    pub bad_there : calls.count ≤ read low high → look_in low high ≡ refused lookup_refusals.bad_call_list
    bad_there h = turn ∙ rw (le-ltb (read low high) calls.count h) refl
