-- A class run in the midst of its starts: the invariant of the loop, and what it gives at the end. Assumes nothing.
use Prim.Native.Nat.{ℕ, ◌+◌, ◌*◌, ◌-◌, ◌≤◌, ◌<◌}
use native.Mathlib.Omega.{arith}
use native.Mathlib.Numerals.{add-one}
use mathlib.Core.Path.{◌≡◌, refl, sym, ap, ap₂, subst, ◌∙◌}
use mathlib.Core.List.{List, [], ◌∷◌, ◌++◌, append-nil}
use lib.ListN.{length, get_or, take, drop, length-append, length-drop, drop_of_length-le}
use lib.Seq.{take-suc, take_all, take_at, drop_at, drop-drop}
use borrow.Author.Tests.{lt-ltb, le-ltb}
use borrow.Rule.Slice.PartMut.{mid_of, put_mid}
use Rattle.refusals.specs.Class.{class_refusals}
use Rattle.steps.specs.State.{State}
use Rattle.evaluator.specs.Evaluated.{Asked, Lent, Told, Evaluated, lent}
use Rattle.class.specs.Class.{four, places, written, result_words, handed_on, together, Turns, over, Ran, refused, ran}
use Rattle.class.specs.Shown.{SameRoom}
use Rattle.class.proofs.Turns.{turns_more, room_kept, written_fits}

-- ---- words

pub words_long : (rs : List Told) → length (result_words rs) ≡ 4 * length rs
unfolding result_words
words_long [] = refl
words_long (r ∷ rs) = omega (arith, words_long rs)

words_more : (rs : List Told) (r : Told) → result_words (rs ++ r ∷ []) ≡ result_words rs ++ four r
unfolding result_words
words_more [] r = refl
words_more (s ∷ rs) r = ap (λ (ws : List ℕ). four s ++ ws) (words_more rs r)

written_more : (rs : List Told) (r : Told) → written (rs ++ r ∷ []) ≡ written rs + places r
unfolding written
written_more [] r = omega arith
written_more (s ∷ rs) r = omega (arith, written_more rs r)

-- ---- the part of the list that is lent

module _ (used : ℕ) (xs : List ℕ) where
  pub part_left : mid_of used (length xs - used) xs ≡ drop used xs
  part_left = take_all (length xs - used) (drop used xs) (omega (arith, length-drop used xs))

  pub part_back : (ys : List ℕ) → put_mid used (length xs - used) xs ys ≡ take used xs ++ ys
  part_back ys =
      ap (λ (zs : List ℕ). take used xs ++ (ys ++ zs)) (drop_of_length-le (drop used xs) {i = length xs - used} (omega (arith, length-drop used xs)))
      ∙ ap (λ (zs : List ℕ). take used xs ++ zs) (append-nil ys)

  -- an evaluation that is lent the places left is one of what the starts so far handed on
  pub rest_evaluated : {q : Asked} {calls answers list : List ℕ} {left : Lent} {r : Told}
      → Evaluated q (lent calls answers (mid_of used (length xs - used) xs) list) left r → Evaluated q (handed_on used (lent calls answers xs list)) left r
  rest_evaluated {q} {calls} {answers} {list} {left} {r} e = subst (λ (ends : List ℕ). Evaluated q (lent calls answers ends list) left r) part_left e

module _ (ask : State → Asked) (starts : List State) (results₀ : List ℕ) (before : Lent) where
  -- The first i starts are run, and have taken `used` places.
  pub record Done (i used : ℕ) (results : List ℕ) (now : Lent) : Type 0 where
    pub given : List Told
    pub turns : Turns ask (take i starts) before now given
    pub many : length given ≡ i
    pub taken : used ≡ written given
    pub words : results ≡ result_words given ++ drop (4 * i) results₀

  pub done_none : Done 0 0 results₀ before
  unfolding written result_words
  done_none = record { given = []; turns = over; many = refl; taken = refl; words = refl }

  module _ {i used : ℕ} {results : List ℕ} {now : Lent} (d : Done i used results now) where
    pub done_fits : used ≤ length now.ends
    done_fits = rw d.taken (written_fits d.turns)

    pub done_room : SameRoom now before
    done_room = room_kept d.turns

    pub done_long : 4 * i ≤ length results₀ → length results ≡ length results₀
    done_long l =
        ap length d.words ∙ length-append (result_words d.given) (drop (4 * i) results₀)
        ∙ omega (arith, words_long d.given, d.many, length-drop (4 * i) results₀)

  -- One start more.
  pub done_more : {i used : ℕ} {results : List ℕ} {now left : Lent} {r : Told} → Done i used results now → i < length starts
      → Evaluated (ask (get_or starts i 0)) (handed_on used now) left r
      → Done (i + 1) (used + places r) (take (4 * i) results ++ four r ++ drop (4 * i + 4) results) (together used now left)
  done_more {i} {used} {results} {now} {left} {r} d l E =
      let rs = d.given in
      let front = result_words rs in
      let long : length front ≡ 4 * i = words_long rs ∙ ap (λ (n : ℕ). 4 * n) d.many in
      let T = turns_more d.turns (subst (λ (n : ℕ). Evaluated (ask (get_or starts i 0)) (handed_on n now) left r) d.taken E) in
      let first : take (4 * i) results ≡ front = ap (take (4 * i)) d.words ∙ take_at front (drop (4 * i) results₀) (4 * i) long in
      let next : 4 * i + 4 ≡ 4 * (i + 1) = omega arith in
      let past : drop (4 * i + 4) results ≡ drop (4 * (i + 1)) results₀ =
      sym (drop-drop 4 (4 * i) results) ∙ ap (λ (ws : List ℕ). drop 4 (drop (4 * i) ws)) d.words ∙ ap (drop 4) (drop_at front (drop (4 * i) results₀) (4 * i) long)
      ∙ drop-drop 4 (4 * i) results₀ ∙ ap (λ (n : ℕ). drop n results₀) next in
      record {
        given = rs ++ r ∷ [];
        turns = subst (λ (n : ℕ). Turns ask (take (i + 1) starts) before (together n now left) (rs ++ r ∷ [])) (sym d.taken)
            (subst (λ (xs : List State). Turns ask xs before (together (written rs) now left) (rs ++ r ∷ []))
            (sym (take-suc starts i 0 l) ∙ ap (λ (n : ℕ). take n starts) (sym (add-one i))) T);
        many = omega (arith, length-append rs (r ∷ []), d.many);
        taken = omega (arith, d.taken, written_more rs r);
        words = ap₂ (λ (xs ys : List ℕ). xs ++ four r ++ ys) first past ∙ ap (λ (ws : List ℕ). ws ++ drop (4 * (i + 1)) results₀) (sym (words_more rs r));
      }

  -- The same in other terms.
  pub done_as : {i used used' : ℕ} {results results' : List ℕ} {now now' : Lent} → used' ≡ used → results' ≡ results → now' ≡ now → Done i used results now
      → Done i used' results' now'
  done_as {i = i} e f g d = record {
    given = d.given;
    turns = subst (λ (l : Lent). Turns ask (take i starts) before l d.given) (sym g) d.turns;
    many = d.many;
    taken = e ∙ d.taken;
    words = f ∙ d.words;
  }

  -- All starts are run.
  pub done_all : {i used : ℕ} {results : List ℕ} {now : Lent} → length starts ≤ 1024 → 4 * length starts ≤ length results₀
      → i ≤ length starts → length starts ≤ i → Done i used results now → Ran ask starts results₀ before results now 0
  done_all {i} {now = now} few room l m d =
      let e : 4 * i ≡ 4 * length starts = omega arith in
      ran (rw (le-ltb _ _ few) (le-ltb _ _ room)) refl
      (subst (λ (xs : List State). Turns ask xs before now d.given) (take_all i starts m) d.turns)
      (d.words ∙ ap (λ (n : ℕ). result_words d.given ++ drop n results₀) e)

  -- The checks before all.
  pub too_many : 1024 < length starts → Ran ask starts results₀ before results₀ before class_refusals.bad_class
  too_many l = refused (rw (lt-ltb _ _ l)) refl refl refl

  pub too_short : length starts ≤ 1024 → length results₀ < 4 * length starts → Ran ask starts results₀ before results₀ before class_refusals.bad_class
  too_short l m = refused (rw (le-ltb _ _ l) (lt-ltb _ _ m)) refl refl refl
