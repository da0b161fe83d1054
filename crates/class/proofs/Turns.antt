-- Turns one after another: a start more at the end, and the buffers' lengths. Assumes nothing.
use Prim.Native.Nat.{ℕ, ◌+◌, ◌≤◌}
use native.Mathlib.Omega.{arith}
use mathlib.Core.Path.{◌≡◌, refl, sym, ap, subst, ◌∙◌}
use mathlib.Core.List.{List, [], ◌∷◌, ◌++◌, append_assoc}
use lib.ListN.{length, take, drop, take-append-drop, length-append, length-take, length-drop}
use lib.Seq.{length-take-le, take-append-add, drop-append-add}
use borrow.Author.Tests.{eq-eqb, ne_eqb}
use Rattle.steps.specs.State.{State}
use Rattle.evaluator.specs.Evaluated.{Asked, Lent, Told, lent, Evaluated}
use Rattle.evaluator.proofs.Determined.{Listing, as_it_was, with_ends, listing, list_kept, tables_kept}
use Rattle.class.specs.Class.{places, written, handed_on, together, Turns, over, turn}
use Rattle.class.specs.Shown.{SameRoom}

-- ---- places

pub places_none : (r : Told) → (r.refusal ≡ 0 → ⊥) → places r ≡ 0
places_none r n = rw (ne_eqb _ _ n)

pub places_ends : (r : Told) → r.refusal ≡ 0 → places r ≡ r.ends
places_ends r z = rw (eq-eqb _ _ z)

module _ {q : Asked} {before left : Lent} {r : Told} (E : Evaluated q before left r) where
  -- no start takes more places than it was lent
  pub places_fit : places r ≤ length left.ends
  places_fit = go (listing E)
    where
      go : Listing q before left r → places r ≤ length left.ends
      go (as_it_was n s) = rw (places_none r n) (omega arith)
      go (with_ends z L l up is) = rw (places_ends r z) (omega (arith, list_kept E))

-- ---- lists in two parts

module _ (p w : ℕ) (xs ys : List ℕ) (l : p ≤ length xs) where
  pub take_past : take (p + w) (take p xs ++ ys) ≡ take p xs ++ take w ys
  take_past = ap (λ (n : ℕ). take (n + w) (take p xs ++ ys)) (sym (length-take-le p xs l)) ∙ take-append-add (take p xs) ys w

  pub drop_past : drop (p + w) (take p xs ++ ys) ≡ drop w ys
  drop_past = ap (λ (n : ℕ). drop (n + w) (take p xs ++ ys)) (sym (length-take-le p xs l)) ∙ drop-append-add (take p xs) ys w

module _ {ask : State → Asked} where
  -- One start more, run with the tables left and what is left of the list.
  pub turns_more : {starts : List State} {start : State} {before now left : Lent} {rs : List Told} {r : Told}
      → Turns ask starts before now rs → Evaluated (ask start) (handed_on (written rs) now) left r
      → Turns ask (starts ++ start ∷ []) before (together (written rs) now left) (rs ++ r ∷ [])
  unfolding written
  turns_more {start = start} {before = before} {left = left} {r = r} over E =
      subst (λ (ends : List ℕ). Turns ask (start ∷ []) before (lent left.calls left.answers ends left.list) (r ∷ []))
      (take-append-drop (places r) left.ends)
      (turn E over)
  turns_more {start = start} {before = before} {left = left} {r = r} (turn {start = first} {later = later} {left = between} {last = last} {r = r₀} {rs = rs} E₀ T) E =
      let p = places r₀ in
      let w = written rs in
      let fits = places_fit E₀ in
      let E' = subst (λ (ends : List ℕ). Evaluated (ask start) (lent last.calls last.answers ends last.list) left r) (drop_past p w between.ends last.ends fits) E in
      subst (λ (ends : List ℕ). Turns ask (first ∷ later ++ start ∷ []) before (lent left.calls left.answers ends left.list) (r₀ ∷ rs ++ r ∷ []))
      (sym (append_assoc (take p between.ends) (take w last.ends) left.ends) ∙ ap (λ (xs : List ℕ). xs ++ left.ends) (sym (take_past p w between.ends last.ends fits)))
      (turn E₀ (turns_more T E'))

  -- Every buffer keeps its length.
  pub room_kept : {starts : List State} {before last : Lent} {rs : List Told} → Turns ask starts before last rs → SameRoom last before
  room_kept over = record { calls = refl; answers = refl; ends = refl; list = refl }
  room_kept (turn {left = left} {last = last} {r = r} E T) =
      let k = room_kept T in
      let t = tables_kept E in
      record {
        calls = k.calls ∙ t.0;
        answers = k.answers ∙ t.1;
        ends = simp (length-append, length-take) (omega (arith, k.ends, length-drop (places r) left.ends, list_kept E, places_fit E));
        list = k.list ∙ t.2;
      }

  -- As many places are taken as there are.
  pub written_fits : {starts : List State} {before last : Lent} {rs : List Told} → Turns ask starts before last rs → written rs ≤ length last.ends
  unfolding written
  written_fits over = omega arith
  written_fits (turn {left = left} {last = last} {r = r} E T) =
      omega (arith, written_fits T, length-append (take (places r) left.ends) last.ends, length-take-le (places r) left.ends (places_fit E))

  pub turns_many : {starts : List State} {before last : Lent} {rs : List Told} → Turns ask starts before last rs → length rs ≡ length starts
  turns_many over = refl
  turns_many (turn E T) = omega (arith, turns_many T)
