-- Call records whose numbers are sorted by their keys are listed. Assumes nothing.
use Prim.Native.Nat.{ℕ, ◌+◌, ◌*◌, ◌<◌, ◌≤◌}
use native.Mathlib.Omega.{arith}
use mathlib.Core.Path.{◌≡◌, refl, sym, ap, subst, ◌∙◌}
use mathlib.Core.List.{List}
use mathlib.Core.Logic.{inr}
use lib.ListN.{length, get_or}
use Rattle.sorting.specs.Permuted.{Permuted}
use Rattle.sorting.specs.Shuffled.{Shuffled, NumbersSorted, Before}
use Rattle.sorting.proofs.Orders.{no_later_apart}
use Rattle.sorting.proofs.SortedLaws.{number_moved}
use Rattle.radix.specs.Lines.{line_width, LinesSorted}
use Rattle.records.specs.Records.{Calls, call_table, call_width}
use Rattle.records.proofs.Growth.{CallsOnce, row_once}
use Rattle.listing.specs.Listing.{key_of, Numbered, CallsListed, Lined, Taken}

-- The numbers in another order stand at the head of a list that is 0 past them, and their keys do not fall: the calls are listed.
module _ (calls : Calls) (len : ℕ) (list : List ℕ) (O : Permuted 0 calls.count) (long : length list ≡ len) (stands : (p : ℕ) → p < calls.count → get_or list p 0 ≡ O.from p)
    (rise : (p q : ℕ) → p < q → q < calls.count → Before (key_of calls (O.from q)) (key_of calls (O.from p)) → ⊥) (past : (p : ℕ) → calls.count ≤ p → get_or list p 0 ≡ 0) (once : CallsOnce calls) where
  -- no two calls have one key
  differ : (p q : ℕ) → p < q → q < calls.count → key_of calls (O.from p) ≡ key_of calls (O.from q) → ⊥
  differ p q l m e =
      let z : O.from p ≡ O.from q = row_once calls once (O.from p) (O.from q) _ _ (O.from_in p (omega arith) (omega arith)).1 (O.from_in q (omega arith) m).1
      (record { has_action = ap (λ (k : ℕ × ℕ). k.0) e; has_state = ap (λ (k : ℕ × ℕ). k.1) e }) (record { has_action = refl; has_state = refl }) in
      let w : p ≡ q = sym (O.back_from p (omega arith) (omega arith)) ∙ ap O.back z ∙ O.back_from q (omega arith) m in
      omega arith

  up : (p q : ℕ) → p < q → q < calls.count → Before (key_of calls (O.from p)) (key_of calls (O.from q))
  up p q l m = no_later_apart (record { never = rise p q l m }) (differ p q l m)

  pub listed_by : CallsListed calls len list
  listed_by = record {
    long = long;
    numbers = λ p l. omega (arith, stands p l, (O.from_in p (omega arith) l).1);
    every = λ i l. (let b = (O.back_in i (omega arith) l).1 in (O.back i, b, stands (O.back i) b ∙ O.from_back i (omega arith) l));
    rising = λ p q l m. subst (λ (x : ℕ). Before (key_of calls x) (key_of calls (get_or list q 0))) (sym (stands p (omega arith)))
        (subst (λ (y : ℕ). Before (key_of calls (O.from p)) (key_of calls y)) (sym (stands q m)) (up p q l m));
    past = past;
  }

-- ---- numbers sorted in the list

pub numbers_listed : (calls : List ℕ) {n len : ℕ} {first list : List ℕ} → Numbered n len first → NumbersSorted call_width calls 0 n first list → CallsOnce (call_table calls n) → CallsListed (call_table calls n) len list
numbers_listed calls {n} {len} {first} {list} N S once = listed_by (call_table calls n) len list
    (record { from = t.from; back = t.back; from_in = t.from_in; back_in = t.back_in; from_back = t.from_back; back_from = t.back_from })
    (t.size ∙ N.long) stands
    (λ p q l m h. S.rising p q (omega arith) l m
    (subst (λ (x : ℕ). Before (key_of (call_table calls n) x) (key_of (call_table calls n) (get_or list p 0))) (sym (stands q m))
    (subst (λ (y : ℕ). Before (key_of (call_table calls n) (t.from q)) (key_of (call_table calls n) y)) (sym (stands p (omega arith))) h)))
    (λ p l. t.stays p (inr (omega arith)) ∙ N.past p l) once
  where
    t : Shuffled 1 0 n first list
    t = S.shuffled

    stands : (p : ℕ) → p < n → get_or list p 0 ≡ t.from p
    stands p l = number_moved t p (omega arith) l ∙ N.numbers (t.from p) (t.from_in p (omega arith) l).1

-- ---- numbers taken from sorted lines

pub lines_listed : (calls : List ℕ) {n at spare len : ℕ} {words first sorted list : List ℕ} → Lined calls n at words first → LinesSorted at spare n first sorted → Taken sorted at n len list → CallsOnce (call_table calls n)
    → CallsListed (call_table calls n) len list
lines_listed calls {n} {at} {spare} {len} {words} {first} {sorted} {list} L S T once = listed_by (call_table calls n) len list S.order T.long
    (λ p l. T.numbers p l ∙ S.moved p 2 l (omega arith) ∙ L.number (S.order.from p) (S.order.from_in p (omega arith) l).1)
    (λ p q l m h. S.rising p q l m (subst (λ (k : ℕ × ℕ). Before k (line p)) (sym (keys q m)) (subst (Before (key_of (call_table calls n) (S.order.from q))) (sym (keys p (omega arith))) h)))
    T.past once
  where
    line : ℕ → ℕ × ℕ
    line p = (get_or sorted (at + line_width * p) 0, get_or sorted (at + line_width * p + 1) 0)

    keys : (p : ℕ) → p < n → line p ≡ key_of (call_table calls n) (S.order.from p)
    keys p l =
        let f = (S.order.from_in p (omega arith) l).1 in
        let z : (q : ℕ) → at + line_width * q + 0 ≡ at + line_width * q = λ q. omega arith in
        let a = ap (λ (x : ℕ). get_or sorted x 0) (sym (z p)) ∙ S.moved p 0 l (omega arith) ∙ ap (λ (x : ℕ). get_or first x 0) (z (S.order.from p)) ∙ L.action (S.order.from p) f in
        λ k. (a k, (S.moved p 1 l (omega arith) ∙ L.state (S.order.from p) f) k)
