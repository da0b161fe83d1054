-- More rules, more deductions; and the rules of the first book stand in the book of two. Assumes nothing.
use Prim.Native.Nat.{ℕ, zero, suc, ◌+◌, ◌*◌, ◌/◌, ◌<◌}
use native.Mathlib.Omega.{arith}
use mathlib.Core.Path.{◌≡◌, refl, ap, sym, ◌∙◌, subst}
use mathlib.Core.List.{List, [], ◌∷◌, ◌++◌, append_assoc, append-nil, Memᴰ}
use lib.ListN.{length, get_or, drop, length-append}
use lib.Seq.{drop-append-add}
use Rattle.steps.specs.Step.{Rule, Book}
use Rattle.steps.specs.Words.{book_of, body_of}
use Rattle.steps.specs.Widths.{rule_width}
use Rattle.steps.specs.Inner.{rule_of}
use Rattle.steps.specs.Deduction.{Sequent, Move, queries, inserts, deletes, calls, denies, Deduction, done, move}
use Rattle.steps.proofs.Lists.{at_member}
use Rattle.steps.proofs.WordLaws.{book_length, book_at, book_member}
use Rattle.fields.specs.Book.{joined}
use Rattle.sheet.proofs.Valid.{GoodRule}
use Rattle.sheet.proofs.Acceptance.{padded_length}
use Rattle.sheet.proofs.Decoding.{rule_at}

module _ {book more : Book} (all : (r : Rule) → Memᴰ r book → Memᴰ r more) where
  move_more : {S T : Sequent} → Move book S T → Move more S T
  move_more (queries h) = queries h
  move_more inserts = inserts
  move_more deletes = deletes
  move_more (calls r m e) = calls r (all r m) e
  move_more (denies h) = denies h

  pub deduction_more : {S T : Sequent} → Deduction book S T → Deduction more S T
  deduction_more done = done
  deduction_more (move m d) = move (move_more m) (deduction_more d)

-- rule words that are good, of some counts
abbrev pub AllGood : ℕ → ℕ → List (List ℕ) → Type 0
AllGood f a rs = (r : ℕ) → r < length rs → GoodRule f a (get_or rs r [])

module _ (f a : ℕ) where
  good_length : (r : List ℕ) → GoodRule f a r → length r ≡ rule_width
  good_length r g = ap length g.is ∙ ap (λ (n : ℕ). suc (suc n)) (padded_length g.steps g.good.few)

  pub rules_length : (rs : List (List ℕ)) → AllGood f a rs → length (joined rs) ≡ rule_width * length rs
  rules_length [] h = refl
  rules_length (r ∷ rs) h =
      let n = length-append r (joined rs) in
      let k = good_length r (h 0 (omega arith)) in
      let i = rules_length rs (λ j l. h (suc j) (omega arith)) in
      omega arith

  -- the words from rule r on
  words_from : (rs : List (List ℕ)) → AllGood f a rs → (after : List ℕ) (r : ℕ) → r < length rs → (rest : List ℕ) × (drop (rule_width * r) (joined rs ++ after) ≡ get_or rs r [] ++ rest)
  words_from [] h after r l = absurd (omega arith)
  words_from (x ∷ rs) h after zero l = (joined rs ++ after, append_assoc x (joined rs) after)
  words_from (x ∷ rs) h after (suc r) l =
      let k = good_length x (h 0 (omega arith)) in
      let (rest, e) = words_from rs (λ j l. h (suc j) (omega arith)) after r (omega arith) in
      let n : rule_width * suc r ≡ length x + rule_width * r = omega arith in
      (rest, ap (λ (i : ℕ). drop i ((x ++ joined rs) ++ after)) n ∙ ap (drop (length x + rule_width * r)) (append_assoc x (joined rs) after) ∙ drop-append-add x (joined rs ++ after) (rule_width * r) ∙ e)

  -- rule r, whatever follows
  rule_there : (rs : List (List ℕ)) (h : AllGood f a rs) (after : List ℕ) (r : ℕ) (l : r < length rs) → rule_of (joined rs ++ after) r ≡ record { head = (h r l).head; body = body_of (h r l).steps }
  rule_there rs h after r l =
      let (rest, e) = words_from rs h after r l in
      rule_at (joined rs ++ after) r (h r l).head (h r l).steps rest (e ∙ ap (λ (x : List ℕ). x ++ rest) (h r l).is)

  joined_append : (rs more : List (List ℕ)) → joined (rs ++ more) ≡ joined rs ++ joined more
  joined_append [] more = refl
  joined_append (r ∷ rs) more = ap (λ (l : List ℕ). r ++ l) (joined_append rs more) ∙ sym (append_assoc r (joined rs) (joined more))

  module _ (rs more : List (List ℕ)) (h : AllGood f a rs) where
    rule_kept : (r : ℕ) → r < length rs → rule_of (joined rs) r ≡ rule_of (joined (rs ++ more)) r
    rule_kept r l = ap (λ (x : List ℕ). rule_of x r) (sym append_none) ∙ rule_there rs h [] r l ∙ sym (rule_there rs h (joined more) r l) ∙ ap (λ (x : List ℕ). rule_of x r) (sym (joined_append rs more))
      where
        append_none : joined rs ++ [] ≡ joined rs
        append_none = append-nil (joined rs)

    pub rules_kept : (r : Rule) → Memᴰ r (book_of (joined rs)) → Memᴰ r (book_of (joined (rs ++ more)))
    rules_kept r m =
        let n = rules_length rs h in
        let (i, l, e) = book_member (joined rs) 0 (length (joined rs) / rule_width) r m in
        let k = ap length (joined_append rs more) ∙ length-append (joined rs) (joined more) in
        let z = book_length (joined (rs ++ more)) 0 (length (joined (rs ++ more)) / rule_width) in
        let low : i < length (joined (rs ++ more)) / rule_width = omega arith in
        let at = book_at (joined (rs ++ more)) 0 (length (joined (rs ++ more)) / rule_width) i r low in
        subst (λ (x : Rule). Memᴰ x (book_of (joined (rs ++ more)))) (at ∙ ap (rule_of (joined (rs ++ more))) (omega arith) ∙ sym (e ∙ rule_kept i (omega arith))) (at_member (book_of (joined (rs ++ more))) i r (omega arith))
