-- What the order of two keys says by the tests of the paper. Assumes nothing.
use Prim.Native.Nat.{ℕ, ◌<◌}
use native.Mathlib.Omega.{arith}
use native.Mathlib.Decide.{dec_lt}
use mathlib.Core.Path.{◌≡◌, refl, sym, ap₂, ◌∙◌, subst}
use mathlib.Core.Bool.{true, false}
use borrow.Author.Tests.{lt-ltb, le-ltb, eq-eqb, ne_eqb}
use Rattle.std.specs.declared.cmp.Ordering.{Ordering}
use Rattle.std.specs.declared.cmp.Ordering.TheVariants.{Less, Equal, Greater}
use Rattle.std.specs.Ordering.{nat_cmp, ordering_then}
use Rattle.records.specs.Records.{Calls}
use Rattle.canonical.specs.Order.{Key, before, same}
use Rattle.lookup.specs.Lookup.{key_of}

-- What an order says of two keys.
abbrev pub Says : Ordering → Key → Key → Type 0
Says Less k l = (same k l ≡ false) × (before k l ≡ true)
Says Equal k l = same k l ≡ true
Says Greater k l = (same k l ≡ false) × (before k l ≡ false)

abbrev compared : Key → Key → Ordering
compared k l = ordering_then (nat_cmp k.0 l.0) (nat_cmp k.1 l.1)

said : (a b x y : ℕ) → Says (compared (a, b) (x, y)) (a, b) (x, y)
said a b x y = by (dec_lt a x) (dec_lt x a) (dec_lt b y) (dec_lt y b)
  where
    by : Dec (a < x) → Dec (x < a) → Dec (b < y) → Dec (y < b) → Says (compared (a, b) (x, y)) (a, b) (x, y)
    by (yes l) g m n = simp (lt-ltb a x l, ne_eqb a x (λ e. omega arith)) (refl, refl)
    by (no l) (yes g) m n = simp (le-ltb a x (omega arith), ne_eqb a x (λ e. omega arith)) (refl, refl)
    by (no l) (no g) (yes m) n = simp (le-ltb a x (omega arith), eq-eqb a x (omega arith), lt-ltb b y m, ne_eqb b y (λ e. omega arith)) (refl, refl)
    by (no l) (no g) (no m) (yes n) = simp (le-ltb a x (omega arith), eq-eqb a x (omega arith), le-ltb b y (omega arith), ne_eqb b y (λ e. omega arith)) (refl, refl)
    by (no l) (no g) (no m) (no n) = simp (le-ltb a x (omega arith), eq-eqb a x (omega arith), le-ltb b y (omega arith), eq-eqb b y (omega arith)) refl

-- What comparing an action and a state with those of a row says of the row's key.
pub says : (calls : Calls) (row action state : ℕ) {row_action row_state : ℕ} {order is : Ordering}
    → row_action ≡ calls.action row → row_state ≡ calls.state row
    → order ≡ compared (action, state) (row_action, row_state) → order ≡ is → Says is (action, state) (key_of calls row)
says calls row action state a s t e =
    subst (λ (o : Ordering). Says o (action, state) (key_of calls row))
    (sym (t ∙ ap₂ (λ (x y : ℕ). compared (action, state) (x, y)) a s) ∙ e)
    (said action state (calls.action row) (calls.state row))
