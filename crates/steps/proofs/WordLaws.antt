-- Step words as steps, and rule words as a book. Assumes nothing.
use Prim.Native.Nat.{ℕ, zero, suc, ◌+◌, ◌*◌, ◌/◌, ◌%◌, ◌<◌, ◌≤◌}
use native.Mathlib.Omega.{arith}
use native.Mathlib.Nat.{le_of_suc-le-suc}
use mathlib.Core.Path.{◌≡◌, refl, ap, sym, subst, ◌∙◌}
use mathlib.Core.Bool.{Bool, true, false, cond}
use mathlib.Core.Logic.{◌↔◌}
use mathlib.Core.List.Memᴰ
use mathlib.Core.List.{List, ◌∷◌, Memᴰ}
use lib.ListN.{get_or, drop, length, length-take}
use lib.Dec.{ltb}
use borrow.Author.Tests.{lt-ltb, eqb-true, eqb-false}
use Rattle.steps.specs.State.{State, holds, added}
use Rattle.steps.specs.Step.{Step, query, insert, delete, call, deny, Body, Rule, Book}
use Rattle.steps.specs.Deduction.{◌⊢◌, Move}
use Rattle.steps.specs.Words.{step_by, step_of, count_of, words_of, rules_from, book_of}
use Rattle.steps.specs.Widths.{rule_width}
use Rattle.steps.specs.Inner.{is_call, rule_of}
use Rattle.steps.specs.Elementary.{on, stuck, elementary}
use Rattle.steps.proofs.Lists.{at_member}
use Rattle.steps.proofs.Deductions.{Does, asks, adds, drops, lacks, does_move, move_does}

-- ---- calls

call_by : (k i : ℕ) → k ≡ 3 → step_by k i ≡ call i
unfolding step_by
call_by k i l = rw l refl

-- a word that is a call is one of its index
pub call_word : (w : ℕ) → is_call w ≡ true → step_of w ≡ call (w % 256)
call_word w l = call_by (w / 256) (w % 256) (eqb-true (w / 256) 3 l)

by_call : (k i b : ℕ) → (k ≡ 3 → ⊥) → call b ≡ step_by k i → ⊥
unfolding step_by
by_call zero i b l e = let z : ◌≡◌ {A = ℕ} 0 1 = cc in absurd (omega arith)
by_call (suc zero) i b l e = let z : ◌≡◌ {A = ℕ} 0 1 = cc in absurd (omega arith)
by_call (suc (suc zero)) i b l e = let z : ◌≡◌ {A = ℕ} 0 1 = cc in absurd (omega arith)
by_call (suc (suc (suc zero))) i b l e = absurd (l refl)
by_call (suc (suc (suc (suc k)))) i b l e = let z : ◌≡◌ {A = ℕ} 0 1 = cc in absurd (omega arith)

-- a word that is no call is none as a step
pub no_call : (w : ℕ) → is_call w ≡ false → (b : ℕ) → step_of w ≡ call b → ⊥
no_call w l b e = by_call (w / 256) (w % 256) b (eqb-false (w / 256) 3 l) (sym e)

call_index : {a b : ℕ} → call a ≡ call b → a ≡ b
call_index e = cc

pub word_call : (w b : ℕ) → call b ≡ step_of w → (is_call w ≡ true) × (b ≡ w % 256)
word_call w b e = by (is_call w) refl
  where
    by : (c : Bool) → is_call w ≡ c → (c ≡ true) × (b ≡ w % 256)
    by true l = (refl, call_index (e ∙ call_word w l))
    by false l = absurd (no_call w l b (sym e))

-- ---- elementary steps

-- a step's fluent is one of the 64 that a state has
abbrev pub Low : Step → Type 0
Low (query p) = p < 64
Low (insert p) = p < 64
Low (delete p) = p < 64
Low (call a) = Unit {0}
Low (deny p) = p < 64

pub on_same : {s t : State} → on s ≡ on t → s ≡ t
on_same e = cc

pub not_on : {t : State} → stuck ≡ on t → ⊥
not_on e = let z : ◌≡◌ {A = ℕ} 0 1 = cc in omega arith

-- the code's step is the logic's
pub elementary_does : (x : Step) (s t : State) → elementary x s ≡ on t → Does x s t
unfolding elementary
elementary_does (query p) s t e = by (holds s p) refl e
  where
    by : (b : Bool) → holds s p ≡ b → cond b (on s) stuck ≡ on t → Does (query p) s t
    by true h f = subst (λ (t : State). Does (query p) s t) (on_same f) (asks h)
    by false h f = absurd (not_on f)
elementary_does (insert p) s t e = by (ltb p 64) e
  where
    by : (b : Bool) → cond b (on (added s p)) stuck ≡ on t → Does (insert p) s t
    by true f = subst (λ (t : State). Does (insert p) s t) (on_same f) adds
    by false f = absurd (not_on f)
elementary_does (delete p) s t e = subst (λ (t : State). Does (delete p) s t) (on_same e) drops
elementary_does (call a) s t e = absurd (not_on e)
elementary_does (deny p) s t e = by (holds s p) refl e
  where
    by : (b : Bool) → holds s p ≡ b → cond b stuck (on s) ≡ on t → Does (deny p) s t
    by true h f = absurd (not_on f)
    by false h f = subst (λ (t : State). Does (deny p) s t) (on_same f) (lacks h)

pub does_elementary : (x : Step) (s t : State) → Low x → Does x s t → elementary x s ≡ on t
unfolding elementary
does_elementary (query p) s t l (asks h) = rw h refl
does_elementary (insert p) s t l adds = rw (lt-ltb p 64 l) refl
does_elementary (delete p) s t l drops = refl
does_elementary (call a) s t l h = elim h [ ]
does_elementary (deny p) s t l (lacks h) = rw h refl

-- An elementary step is the move of its step in front.
pub elementary_move : (book : Book) (x : Step) (s t : State) (rest : Body) → Low x → ((a : ℕ) → x ≡ call a → ⊥) → (elementary x s ≡ on t) ↔ Move book (s ⊢ x ∷ rest) (t ⊢ rest)
elementary_move book x s t rest low no_call = (λ e. does_move (elementary_does x s t e), λ m. does_elementary x s t low (move_does no_call m))

-- ---- the book

pub book_length : (rules : List ℕ) (k n : ℕ) → length (rules_from rules k n) ≡ n
unfolding rules_from
book_length rules k zero = refl
book_length rules k (suc n) = ap suc (book_length rules (suc k) n)

pub book_at : (rules : List ℕ) (k n i : ℕ) (d : Rule) → i < n → get_or (rules_from rules k n) i d ≡ rule_of rules (k + i)
unfolding rules_from
book_at rules k zero i d l = absurd (omega arith)
book_at rules k (suc n) zero d l = ap (rule_of rules) (omega arith)
book_at rules k (suc n) (suc i) d l = book_at rules (suc k) n i d (le_of_suc-le-suc l) ∙ ap (rule_of rules) (omega arith)

pub book_member : (rules : List ℕ) (k n : ℕ) (r : Rule) → Memᴰ r (rules_from rules k n) → (i : ℕ) × (i < k + n) × (r ≡ rule_of rules i)
unfolding rules_from
book_member rules k zero r m = absurd (Memᴰ.not-nil m)
book_member rules k (suc n) r (Memᴰ.head e) = (k, omega arith, e)
book_member rules k (suc n) r (Memᴰ.tail m) = let (i, l, e) = book_member rules (suc k) n r m in (i, omega arith, e)

-- rule number i is in the book
pub rule_member : (rules : List ℕ) (i : ℕ) → i < length rules / rule_width → Memᴰ (rule_of rules i) (book_of rules)
rule_member rules i l =
    subst (λ (r : Rule). Memᴰ r (book_of rules)) (book_at rules 0 (length rules / rule_width) i (rule_of rules 0) l ∙ ap (rule_of rules) (omega arith))
    (at_member (book_of rules) i (rule_of rules 0) (rw (book_length rules 0 (length rules / rule_width)) l))

pub words_short : (rules : List ℕ) (r : ℕ) → length (words_of rules r) ≤ count_of rules r
words_short rules r = omega (arith, length-take (count_of rules r) (drop (rule_width * r + 2) rules))
