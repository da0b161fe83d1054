-- A lookup by a list in order finds what a walk of the table finds (request R-10). Assumes nothing.
use Prim.Native.Nat.{ℕ, zero, suc, ◌+◌, ◌-◌, ◌<◌, ◌≤◌}
use native.Mathlib.Omega.{arith}
use native.Mathlib.Decide.{dec_lt}
use mathlib.Core.Path.{◌≡◌, refl, sym, ap, subst, ◌∙◌}
use mathlib.Core.Bool.{Bool, true, false}
use mathlib.Core.List.{List}
use lib.ListN.{get_or, length}
use borrow.Author.Tests.{le-ltb}
use Rattle.records.specs.Records.{Calls, room, call_table, call_width}
use Rattle.canonical.specs.Order.{Key, before, same}
use Rattle.sorting.specs.Shuffled.{Before}
use Rattle.canonical.proofs.Keys.{Compared, less, equal, greater, compare, before_trans, before_not, same_true}
use Rattle.lookup.specs.Lookup.{at_row, no_row, key_of, middle, looked_up}
use Rattle.lookup.specs.Walked.{walk, walked, InOrder}
use Rattle.lookup.proofs.Looking.{look_in, in_all, none_left, found_there, on_before, on_after}

-- ---- keys

apart : (x y : Key) → (x ≡ y → ⊥) → same x y ≡ false
apart x y n = by (same x y) refl
  where
    by : (b : Bool) → same x y ≡ b → same x y ≡ false
    by true e = absurd (n (same_true x y e))
    by false e = e

comes_before : (x y : Key) → before x y ≡ true → Before x y
comes_before x y e = by (compare x y)
  where
    by : Compared x y → Before x y
    by (less b t) = b
    by (equal q t s) = let z : ◌≡◌ {A = ℕ} 0 1 = cc in absurd (omega arith)
    by (greater b t s) = let z : ◌≡◌ {A = ℕ} 0 1 = cc in absurd (omega arith)

pub told_before : (x y : Key) → Before x y → before x y ≡ true
told_before x y b = by (compare x y)
  where
    by : Compared x y → before x y ≡ true
    by (less c t) = t
    by (equal q t s) = absurd (before_not b q)
    by (greater c t s) = absurd (before_not {x = x} (before_trans b c) refl)

module _ (calls : Calls) (asked : Key) where
  -- ---- a walk

  walk_none : (i n : ℕ) → ((j : ℕ) → i ≤ j → j < i + n → asked ≡ key_of calls j → ⊥) → walk calls asked i n ≡ no_row
  unfolding walk
  walk_none i zero f = refl
  walk_none i (suc n) f =
      rw (apart asked (key_of calls i) (f i (omega arith) (omega arith))) (walk_none (suc i) n (λ j a b. f j (omega arith) (omega arith)))

  walk_row : (i n row : ℕ) → i ≤ row → row < i + n → asked ≡ key_of calls row → ((j : ℕ) → j < i + n → asked ≡ key_of calls j → j ≡ row)
      → walk calls asked i n ≡ at_row row
  unfolding walk
  walk_row i zero row a b e f = absurd (omega arith)
  walk_row i (suc n) row a b e f = by (compare asked (key_of calls i)) (λ l. walk_row (suc i) n row l (omega arith) e (λ j h. f j (omega arith)))
    where
      rest : (asked ≡ key_of calls i → ⊥) → (suc i ≤ row → walk calls asked (suc i) n ≡ at_row row) → walk calls asked i (suc n) ≡ at_row row
      rest m k = rw (apart asked (key_of calls i) m) (k (past (dec_lt i row)))
        where
          past : Dec (i < row) → suc i ≤ row
          past (yes l) = l
          past (no l) = let z : row ≡ i = omega arith in absurd (m (rw z at e))

      by : Compared asked (key_of calls i) → (suc i ≤ row → walk calls asked (suc i) n ≡ at_row row) → walk calls asked i (suc n) ≡ at_row row
      by (less m t) k = rest (before_not m) k
      by (equal q t s) k = rw s (ap at_row (f i (omega arith) q))
      by (greater m t s) k = rest (λ q. before_not m (sym q)) k

  -- ---- a lookup
  module _ (list : List ℕ) (ordered : InOrder calls list) where
    abbrev key_at : ℕ → Key
    key_at p = key_of calls (get_or list p 0)

    rises : (p q : ℕ) → p < q → q < calls.count → Before (key_at p) (key_at q)
    rises p q l h = comes_before (key_at p) (key_at q) (ordered.rising p q l h)

    -- the key of a row is that of its place
    row_at : (row : ℕ) → row < calls.count → asked ≡ key_of calls row → (p : ℕ) × (p < calls.count) × (get_or list p 0 ≡ row) × (asked ≡ key_at p)
    row_at row l e = let (p, h, f) = ordered.every row l in (p, h, f, rw (← f) at e)

    -- one place has a key
    one_place : (p q : ℕ) → p < calls.count → q < calls.count → key_at p ≡ key_at q → p ≡ q
    one_place p q a b e = by (dec_lt p q) (dec_lt q p)
      where
        by : Dec (p < q) → Dec (q < p) → p ≡ q
        by (yes l) d = absurd (before_not (rises p q l b) e)
        by (no n) (yes l) = absurd (before_not (rises q p l a) (sym e))
        by (no n) (no m) = omega arith

    -- What is asked stands, if anywhere, at a place from `low` on, before `high`.
    record Between (low high : ℕ) : Type 0 where
      within : high ≤ calls.count
      lower : (p : ℕ) → p < low → Before (key_at p) asked
      higher : (p : ℕ) → high ≤ p → p < calls.count → Before asked (key_at p)

    nowhere : (low high : ℕ) → Between low high → high ≤ low → (row : ℕ) → row < calls.count → asked ≡ key_of calls row → ⊥
    nowhere low high b h row l e = let (p, a, f, g) = row_at row l e in by p a g (dec_lt p low)
      where
        by : (p : ℕ) → p < calls.count → asked ≡ key_at p → Dec (p < low) → ⊥
        by p a g (yes m) = before_not (b.lower p m) (sym g)
        by p a g (no m) = before_not (b.higher p (omega arith) a) g

    module _ (low high : ℕ) (left : low < high) (b : Between low high) where
      abbrev place : ℕ
      place = middle low high

      place_in : place < calls.count
      place_in = omega (arith, b.within)

      go_before : Before asked (key_at place) → Between low place
      go_before m = record { within = omega (arith, b.within); lower = b.lower; higher = λ p h l. by p l (dec_lt place p) h }
        where
          by : (p : ℕ) → p < calls.count → Dec (place < p) → place ≤ p → Before asked (key_at p)
          by p l (yes k) h = before_trans m (rises place p k l)
          by p l (no k) h = let z : place ≡ p = omega arith in subst (λ (q : ℕ). Before asked (key_at q)) z m

      go_after : Before (key_at place) asked → Between (place + 1) high
      go_after m = record { within = b.within; lower = λ p l. by p (dec_lt p place) l; higher = b.higher }
        where
          by : (p : ℕ) → Dec (p < place) → p < place + 1 → Before (key_at p) asked
          by p (yes k) l = before_trans (rises p place k place_in) m
          by p (no k) l = let z : place ≡ p = omega arith in subst (λ (q : ℕ). Before (key_at q) asked) z m

      there : asked ≡ key_at place → walked calls asked ≡ at_row (get_or list place 0)
      there e = walk_row 0 calls.count (get_or list place 0) (omega arith) (omega (arith, ordered.numbers place place_in)) e
          (λ j l f. let (p, a, g, h) = row_at j (omega arith) f in sym g ∙ ap (λ (q : ℕ). get_or list q 0) (one_place p place a place_in (sym h ∙ e)))

      good : get_or list place 0 < calls.count
      good = ordered.numbers place place_in

    looks : (turns low high : ℕ) → high - low ≤ turns → Between low high → look_in calls list asked low high ≡ walked calls asked
    looks zero low high t b =
        none_left calls list asked low high (omega arith) ∙ sym (walk_none 0 calls.count (λ j a l. nowhere low high b (omega arith) j (omega arith)))
    looks (suc turns) low high t b = by (dec_lt low high) (looks turns low (middle low high)) (looks turns (middle low high + 1) high)
      where
        Goes : ℕ → ℕ → Type 0
        Goes from to = to - from ≤ turns → Between from to → look_in calls list asked from to ≡ walked calls asked

        turned : low < high → Compared asked (key_at (middle low high)) → Goes low (middle low high) → Goes (middle low high + 1) high
            → look_in calls list asked low high ≡ walked calls asked
        turned l (less m e) f g =
            on_before calls list asked low high l (good low high l b) (apart asked (key_at (middle low high)) (before_not m)) e
            ∙ f (omega arith) (go_before low high l b m)
        turned l (equal q e s) f g = found_there calls list asked low high l (good low high l b) s ∙ sym (there low high l b q)
        turned l (greater m e s) f g =
            on_after calls list asked low high l (good low high l b) s e ∙ g (omega arith) (go_after low high l b m)

        by : Dec (low < high) → Goes low (middle low high) → Goes (middle low high + 1) high → look_in calls list asked low high ≡ walked calls asked
        by (yes l) f g = turned l (compare asked (key_at (middle low high))) f g
        by (no n) f g =
            none_left calls list asked low high (omega arith) ∙ sym (walk_none 0 calls.count (λ j a l. nowhere low high b (omega arith) j (omega arith)))

-- "Where the list's first places, one for each call, are every record number once with action and then state strictly rising, this gives the same
-- row, or none, as a walk of the table."
pub looked_up_walks : (calls : List ℕ) (count : ℕ) (list : List ℕ) (action state : ℕ) → count ≤ room call_width (length calls) → count ≤ length list
    → InOrder (call_table calls count) list → looked_up calls count list action state ≡ walked (call_table calls count) (action, state)
unfolding looked_up
looked_up_walks calls count list action state r l o =
    rw (le-ltb (room call_width (length calls)) count r, le-ltb (length list) count l)
    (sym (in_all (call_table calls count) list (action, state) count)
    ∙ looks (call_table calls count) (action, state) list o count 0 count (omega arith)
    (record { within = omega arith; lower = λ p h. absurd (omega arith); higher = λ p h k. absurd (omega arith) }))
