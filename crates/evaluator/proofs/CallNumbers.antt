-- A list of the call records by their keys is the one that is promised. Assumes nothing.
use Prim.Native.Nat.{ℕ, suc, ◌-◌, ◌<◌, ◌≤◌}
use native.Mathlib.Omega.{arith}
use mathlib.Core.Path.{◌≡◌, sym, ap, ap₂, subst, ◌∙◌}
use mathlib.Core.List.{List, [], ◌∷◌, ◌++◌, Memᴰ}
use mathlib.Core.Logic.{◌↔◌}
use lib.ListN.{length, get_or, take, drop, replicate, length-drop, length-replicate, take-append-drop}
use lib.Seq.{ext_get_or, length-take-le, get_or-take, get_or-drop}
use Rattle.sorting.specs.Shuffled.{Before}
use Rattle.steps.proofs.Lists.{at_member, member_at}
use Rattle.records.specs.Records.{Bodies}
use Rattle.records.proofs.Growth.{Tables}
use Rattle.canonical.specs.Rows.{Rows, call_key, filled}
use Rattle.canonical.specs.CallList.{call_list}
use Rattle.canonical.proofs.Ordered.{Ordered, none, more}
use Rattle.canonical.proofs.Keys.{Rising}
use Rattle.canonical.proofs.AfterRounds.{Once}
use Rattle.canonical.proofs.TableRows.{call_row, rows_of, rows_calls, rows_call}
use Rattle.canonical.proofs.CallList.{key_at, list_is}
use Rattle.records.proofs.Zeros.{zeros_at}
use Rattle.listing.specs.Listing.{key_of, CallsListed}

-- ---- the list that is promised

-- A list is ordered where each two of its places are.
ordered_by : {A : Type 0} {R : A → A → Type 0} (d : A) (xs : List A) → ((i j : ℕ) → i < j → j < length xs → R (get_or xs i d) (get_or xs j d)) → Ordered R xs
ordered_by d [] h = none
ordered_by {R = R} d (x ∷ xs) h =
    more {x = x}
    (λ y (m : Memᴰ y xs). let (j, l, e) = member_at d m in subst (R x) e (h 0 (suc j) (omega arith) (omega arith)))
    (ordered_by d xs (λ i j k l. h (suc i) (suc j) (omega arith) (omega arith)))

module _ (bodies : Bodies) (u : Tables) {len : ℕ} {list : List ℕ} (fits : u.calls.count ≤ len) (L : CallsListed u.calls len list)
    {rows : Rows} (are : rows_of bodies u ≡ rows) (once : Once call_key rows.calls) where
  abbrev n : ℕ
  n = u.calls.count

  head_long : length (take n list) ≡ n
  head_long = length-take-le n list (omega (arith, L.long))

  many : length rows.calls ≡ n
  many = ap (λ (r : Rows). length r.calls) (sym are) ∙ rows_calls bodies u

  -- the keys are those of the rows
  keys : (i : ℕ) → i < n → key_at rows.calls i ≡ key_of u.calls i
  unfolding call_row
  keys i l = ap (λ (r : Rows). key_at r.calls i) (sym are) ∙ ap call_key (rows_call bodies u i l)

  at : (p : ℕ) → p < n → get_or (take n list) p 0 ≡ get_or list p 0
  at p l = get_or-take n list p 0 l

  key : (p : ℕ) → p < n → key_at rows.calls (get_or (take n list) p 0) ≡ key_of u.calls (get_or list p 0)
  key p l = ap (key_at rows.calls) (at p l) ∙ keys (get_or list p 0) (L.numbers p l)

  rises : Rising (key_at rows.calls) (take n list)
  rises = ordered_by 0 (take n list) (λ p q l m. up p q l (omega (arith, head_long)))
    where
      up : (p q : ℕ) → p < q → q < n → Before (key_at rows.calls (get_or (take n list) p 0)) (key_at rows.calls (get_or (take n list) q 0))
      up p q l m =
          subst (λ (k : ℕ × ℕ). Before k (key_at rows.calls (get_or (take n list) q 0))) (sym (key p (omega arith)))
          (subst (Before (key_of u.calls (get_or list p 0))) (sym (key q m)) (L.rising p q l m))

  members : (i : ℕ) → Memᴰ i (take n list) ↔ (i < length rows.calls)
  members i = (
    λ m. out (member_at 0 m),
    λ l. inside (L.every i (omega (arith, many))),
  )
    where
      out : (p : ℕ) × (p < length (take n list)) × (get_or (take n list) p 0 ≡ i) → i < length rows.calls
      out (p, l, e) = let k : p < n = omega (arith, head_long) in omega (arith, many, e, at p k, L.numbers p k)

      inside : (p : ℕ) × (p < n) × (get_or list p 0 ≡ i) → Memᴰ i (take n list)
      inside (p, l, e) = mathlib.Core.List.Memᴰ.cast (sym (at p l ∙ e)) (at_member (take n list) p 0 (omega (arith, head_long)))

  head_is : take n list ≡ call_list rows.calls
  head_is = list_is rows.calls once rises members

  past_is : drop n list ≡ replicate (len - length (call_list rows.calls)) 0
  past_is = ext_get_or 0 (drop n list) (replicate (len - length (call_list rows.calls)) 0)
      (length-drop n list ∙ sym (length-replicate {A = ℕ} (len - length (call_list rows.calls)) 0 ∙ omega (arith, L.long, ap length head_is, head_long)))
      (λ p l. get_or-drop n list p 0 ∙ L.past _ (omega arith) ∙ sym (zeros_at (len - length (call_list rows.calls)) p))

  -- The list of calls after a finished run.
  pub listed_is : list ≡ filled len (call_list rows.calls)
  listed_is = sym (take-append-drop n list) ∙ ap₂ ◌++◌ head_is past_is
