-- The list of call record numbers of rows, each call once, is in order: a lookup by it finds what a walk of the rows' words finds. Assumes nothing.
use Prim.Native.Nat.{ℕ, ◌-◌, ◌*◌, ◌+◌, ◌<◌, ◌≤◌}
use native.Mathlib.Omega.{arith}
use mathlib.Core.Path.{◌≡◌, ap, ap₂, ◌∙◌}
use mathlib.Core.List.{List, ◌++◌}
use lib.ListN.{get_or, length, replicate, length-append, get_or-append}
use Rattle.steps.proofs.Lists.{at_member, member_at}
use Rattle.records.specs.Records.{Calls, call_table, call_width}
use Rattle.canonical.specs.Order.{before}
use Rattle.canonical.specs.Rows.{CallRow, call_key, call_words, filled}
use Rattle.canonical.specs.CallList.{call_list}
use Rattle.canonical.proofs.Prefix.{ordered_at}
use Rattle.canonical.proofs.AfterRounds.{Once}
use Rattle.canonical.proofs.RowWords.{getD_pad, call_words_length, call_action, call_state}
use Rattle.canonical.proofs.CallList.{key_at, list_rises, list_numbers, list_length}
use Rattle.lookup.specs.Lookup.{key_of, looked_up}
use Rattle.lookup.specs.Walked.{walked, InOrder}
use Rattle.lookup.proofs.Walking.{told_before, looked_up_walks}

module _ (rows : List CallRow) (once : Once call_key rows) (len : ℕ) (more : List ℕ) where
  abbrev words : List ℕ
  words = filled len (call_words rows)

  abbrev table : Calls
  table = call_table words (length rows)

  abbrev list : List ℕ
  list = call_list rows ++ more

  key_is : (i : ℕ) → i < length rows → key_of table i ≡ key_at rows i
  key_is i l = ap₂ (λ (a s : ℕ). (a, s))
      (getD_pad (call_words rows) (len - length (call_words rows)) (call_width * i) ∙ call_action rows i l)
      (getD_pad (call_words rows) (len - length (call_words rows)) (call_width * i + 1) ∙ call_state rows i l)

  place_is : (p : ℕ) → p < length rows → get_or list p 0 ≡ get_or (call_list rows) p 0
  place_is p l = get_or-append (call_list rows) more 0 p (omega (arith, list_length rows once))

  place_in : (p : ℕ) → p < length rows → get_or list p 0 < length rows
  place_in p l =
      let h = (list_numbers rows once (get_or (call_list rows) p 0)).0 (at_member (call_list rows) p 0 (omega (arith, list_length rows once))) in
      omega (arith, place_is p l)

  place_key : (p : ℕ) → p < length rows → key_of table (get_or list p 0) ≡ key_at rows (get_or (call_list rows) p 0)
  place_key p l = key_is (get_or list p 0) (place_in p l) ∙ ap (key_at rows) (place_is p l)

  -- the premise of `looked_up_walks`
  pub call_list_in_order : InOrder table list
  call_list_in_order = record {
    numbers = place_in;
    every = λ row l. let (p, h, e) = member_at 0 ((list_numbers rows once row).1 l) in
        let q : p < length rows = omega (arith, list_length rows once) in (p, q, place_is p q ∙ e);
    rising = λ p q l h.
        let k : p < length rows = omega arith in
        let b = ordered_at 0 (list_rises rows) p q l (omega (arith, list_length rows once)) in
        ap₂ before (place_key p k) (place_key q h) ∙ told_before (key_at rows (get_or (call_list rows) p 0)) (key_at rows (get_or (call_list rows) q 0)) b;
  }

  pub call_list_looked_up : length rows ≤ 65536 → (action state : ℕ)
      → looked_up words (length rows) list action state ≡ walked table (action, state)
  call_list_looked_up h action state = looked_up_walks words (length rows) list action state
      (omega (arith, call_words_length rows, length-append (call_words rows) (replicate (len - length (call_words rows)) 0)))
      (omega (arith, list_length rows once, length-append (call_list rows) more))
      call_list_in_order
