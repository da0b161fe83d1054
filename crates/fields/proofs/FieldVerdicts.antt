-- The verdicts on a field, case by case. Assumes nothing.
use mathlib.Core.Path.{◌≡◌, refl, ap, sym, ◌∙◌}
use mathlib.Core.Bool.{Bool, true, false, not, ◌&&◌}
use mathlib.Core.List.{List, [], ◌∷◌, ◌++◌}
use Prim.Native.Nat.{ℕ, suc, ◌≤◌, ◌<◌}
use native.Mathlib.Omega.{arith}
use lib.Dec.{eqb}
use lib.ListN.{length}
use borrow.Author.Tests.{lt-ltb, le-ltb}
use Rattle.refusals.specs.Sheet.{line_refusals}
use Rattle.steps.specs.State.{holds, added}
use Rattle.chars.specs.Bytes.{is_name}
use Rattle.chars.specs.Places.{place, place_after, among, byte_at}
use Rattle.fields.specs.Verdict.{refuse, accept}
use Rattle.fields.specs.Book.{Symbols}
use Rattle.fields.specs.Field.{judged, used_name, new_name, step_word, names_of, marks, start_name, start_names}
use Rattle.fields.specs.Held.{step_from}
use Rattle.fields.proofs.Verdicts.{not_both, same_value}

-- a used name
module _ (names : List (List ℕ)) (f : List ℕ) where
  pub used_no_name : is_name f ≡ false → used_name names f ≡ refuse line_refusals.bad_field
  unfolding used_name
  used_no_name e = rw e

  pub used_unknown : is_name f ≡ true → length names ≤ place f names → used_name names f ≡ refuse line_refusals.undefined
  unfolding used_name
  used_unknown e h = rw (e, le-ltb (place f names) (length names) h)

  pub used_known : is_name f ≡ true → place f names < length names → used_name names f ≡ accept (place f names)
  unfolding used_name
  used_known e h = rw (e, lt-ltb (place f names) (length names) h)

-- a new name
module _ (y : Symbols) (f : List ℕ) where
  pub new_no_name : is_name f ≡ false → new_name y f ≡ refuse line_refusals.bad_field
  unfolding new_name
  new_no_name e = rw e

  pub new_known : is_name f ≡ true → place f (y.fluents ++ y.actions) < length (y.fluents ++ y.actions) → new_name y f ≡ refuse line_refusals.repeated
  unfolding new_name
  new_known e h = rw (e, lt-ltb (place f (y.fluents ++ y.actions)) (length (y.fluents ++ y.actions)) h)

  pub new_fresh : is_name f ≡ true → length (y.fluents ++ y.actions) ≤ place f (y.fluents ++ y.actions) → new_name y f ≡ accept f
  unfolding new_name
  new_fresh e h = rw (e, le-ltb (place f (y.fluents ++ y.actions)) (length (y.fluents ++ y.actions)) h)

-- a name of `start`, by the verdict on it as a used name and by whether it holds
module _ (t u r : Bool) (n m k : ℕ) where
  judged_refused : judged t true u n ≡ refuse k → judged t (not (u && r)) u m ≡ refuse k
  judged_refused = go t u
    where
      go : (t u : Bool) → judged t true u n ≡ refuse k → judged t (not (u && r)) u m ≡ refuse k
      go false u e = e
      go true false e = e
      go true true e = absurd (not_both k n (sym e))

  judged_known : judged t true u n ≡ accept k → (judged t (not (u && r)) u m ≡ judged true (not r) true m) × (n ≡ k)
  judged_known = go t u
    where
      go : (t u : Bool) → judged t true u n ≡ accept k → (judged t (not (u && r)) u m ≡ judged true (not r) true m) × (n ≡ k)
      go false u e = absurd (not_both line_refusals.bad_field k e)
      go true false e = absurd (not_both line_refusals.undefined k e)
      go true true e = (refl, same_value e)

module _ (y : Symbols) (state : ℕ) (f : List ℕ) (k : ℕ) where
  pub start_refused : used_name y.fluents f ≡ refuse k → start_name y state f ≡ refuse k
  unfolding used_name start_name
  start_refused = judged_refused (is_name f) (among f y.fluents) (holds state (place f y.fluents)) (place f y.fluents) (added state (place f y.fluents)) k

  module _ (e : used_name y.fluents f ≡ accept k) where
    known : (start_name y state f ≡ judged true (not (holds state (place f y.fluents))) true (added state (place f y.fluents))) × (place f y.fluents ≡ k)
    unfolding used_name start_name
    known = judged_known (is_name f) (among f y.fluents) (holds state (place f y.fluents)) (place f y.fluents) (added state (place f y.fluents)) k e

    named : start_name y state f ≡ judged true (not (holds state k)) true (added state k)
    named = known.0 ∙ ap (λ (i : ℕ). judged true (not (holds state i)) true (added state i)) known.1

    pub start_twice : holds state k ≡ true → start_name y state f ≡ refuse line_refusals.repeated
    start_twice h = named ∙ ap (λ (b : Bool). judged true (not b) true (added state k)) h

    pub start_once : holds state k ≡ false → start_name y state f ≡ accept (added state k)
    start_once h = named ∙ ap (λ (b : Bool). judged true (not b) true (added state k)) h

module _ (y : Symbols) (state : ℕ) (f : List ℕ) (fs : List (List ℕ)) (k : ℕ) where
  pub starts_stop : start_name y state f ≡ refuse k → start_names y state (f ∷ fs) ≡ refuse k
  unfolding start_names
  starts_stop e = rw e

  pub starts_go : start_name y state f ≡ accept k → start_names y state (f ∷ fs) ≡ start_names y k fs
  unfolding start_names
  starts_go e = rw e

pub starts_end : (y : Symbols) (state : ℕ) → start_names y state [] ≡ accept state
unfolding start_names
starts_end y state = refl

-- a step
pub mark_le : (b : ℕ) (xs : List ℕ) → byte_at b xs ≤ length xs
unfolding byte_at
mark_le b [] = omega arith
mark_le b (x ∷ xs) = go (eqb x b) (mark_le b xs)
  where
    go : (t : Bool) → byte_at b xs ≤ length xs → place_after t (byte_at b xs) ≤ suc (length xs)
    go true h = omega arith
    go false h = omega arith

module _ (y : Symbols) (b : ℕ) (name : List ℕ) where
  pub step_unmarked : byte_at b marks ≡ 5 → step_word y (b ∷ name) ≡ refuse line_refusals.bad_field
  unfolding step_word
  step_unmarked q = rw q

  pub step_marked : (j : ℕ) → byte_at b marks ≡ j → j < 5 → step_word y (b ∷ name) ≡ step_from j (used_name (names_of y j) name)
  unfolding step_word
  step_marked j q m = rw (q, lt-ltb j 5 m)

pub step_empty : (y : Symbols) (l : List ℕ) → length l < 1 → step_word y l ≡ refuse line_refusals.bad_field
unfolding step_word
step_empty y [] h = refl
step_empty y (x ∷ xs) h = absurd (omega arith)
