-- What each record stands for: nothing, where it adds no state, or a record that adds the same. Assumes nothing.
use Prim.Native.Nat.{ℕ, ◌+◌, ◌<◌, ◌≤◌}
use native.Mathlib.Omega.{arith}
use mathlib.Core.Path.{◌≡◌, refl, sym, ap, ◌∙◌}
use mathlib.Core.Bool.{Bool, true, false}
use mathlib.Core.List.{List, [], ◌∷◌, ◌++◌, append-nil}
use mathlib.Core.Logic.{◌⊎◌, inl, inr}
use lib.ListN.{length, get_or, set}
use lib.Seq.{get_or-set_same, get_or-set_other}
use lib.Dec.{eqb}
use borrow.Author.Tests.{eqb-true, eqb-false}
use Rattle.steps.specs.State.{State}
use Rattle.steps.specs.Words.{step_of}
use Rattle.steps.specs.Inner.{is_call}
use Rattle.unfolding.specs.Path.{shown, adds}
use Rattle.unfolding.proofs.Walk.{Lent, Checked, leads_below, adds_call, adds_shown, words_at, step_at, evidence_at, added_by}
use Rattle.unfolding.proofs.Rests.{state_at, rest, rest_first, rest_end, rest_next, goes_at}

-- Record x stands for nothing, 0, or for record r, one more than it.
pub data Lead (f : ℕ → List State) (x to : ℕ) : Type 0 where
  none : to ≡ 0 → f x ≡ [] → Lead f x to
  same : (r : ℕ) → to ≡ r + 1 → r ≤ x → f r ≡ f x → Lead f x to

-- Of each record below count: what it stands for.
pub record Led (f : ℕ → List State) (leads : List ℕ) (count : ℕ) : Type 0 where
  pub at : (x : ℕ) → x < count → Lead f x (get_or leads x 0)

pub led_none : (f : ℕ → List State) (leads : List ℕ) → Led f leads 0
led_none f leads = record { at = λ x l. absurd (omega arith) }

pub led_more : {f : ℕ → List State} {leads : List ℕ} {n to : ℕ} → Led f leads n → n < length leads → Lead f n to → Led f (set leads n to) (n + 1)
led_more {f} {leads} {n} {to} z l e = record { at = λ x h. by x h (eqb x n) refl }
  where
    by : (x : ℕ) → x < n + 1 → (b : Bool) → eqb x n ≡ b → Lead f x (get_or (set leads n to) x 0)
    by x h true q = rw (eqb-true x n q, get_or-set_same leads n to 0 l) e
    by x h false q = let d : (x ≡ n → ⊥) = eqb-false x n q in rw (get_or-set_other leads n x to 0 d) (z.at x (omega arith))

pub led_less : {f : ℕ → List State} {leads : List ℕ} {count n : ℕ} → n ≤ count → Led f leads count → Led f leads n
led_less l z = record { at = λ x h. z.at x (omega arith) }

-- a lead is at most one more than its record
pub lead_small : {f : ℕ → List State} {x to : ℕ} → Lead f x to → to ≤ x + 1
lead_small (none e z) = omega arith
lead_small (same r e l z) = omega arith

-- ---- of one step

-- A call stands for what its record stands for; any other step for nothing where it adds nothing, else for `own`.
pub record StepLead (leads : List ℕ) (w e own to : ℕ) : Type 0 where
  pub of_call : is_call w ≡ true → to ≡ get_or leads e 0
  pub of_other : is_call w ≡ false → (to ≡ own) ⊎ ((t : State) → length (shown (step_of w) t) ≡ 0) × (to ≡ 0)

-- A call stands for what its record stands for, any other step for nothing.
pub record CallLead (leads : List ℕ) (w e to : ℕ) : Type 0 where
  pub of_call : is_call w ≡ true → to ≡ get_or leads e 0
  pub of_other : is_call w ≡ false → to ≡ 0

-- What two parts stand for together.
pub data Together (first second own to : ℕ) : Type 0 where
  second_only : first ≡ 0 → to ≡ second → Together first second own to
  first_only : second ≡ 0 → to ≡ first → Together first second own to
  both_parts : to ≡ own → Together first second own to

-- ---- of one record, step by step

no_states : (l : List State) → length l ≡ 0 → l ≡ []
no_states [] e = refl
no_states (x ∷ l) e = absurd (omega arith)

module _ (it : Lent) where
  -- What the first q steps of record n stand for.
  pub data Partly (n q to : ℕ) : Type 0 where
    nothing : to ≡ 0 → rest it n 0 ≡ rest it n q → Partly n q to
    one : (r : ℕ) → to ≡ r + 1 → r < n → rest it n 0 ≡ added_by it r ++ rest it n q → Partly n q to
    itself : to ≡ n + 1 → Partly n q to

  pub partly_none : (n : ℕ) → Partly n 0 0
  partly_none n = nothing refl refl

  module _ {count : ℕ} (c : Checked it count) (n : ℕ) (h : n < count) (q : ℕ) (l : q < length (words_at it n))
      {leads : List ℕ} {new : ℕ} (z : Led (added_by it) leads n) (s : StepLead leads (step_at it n q) (evidence_at it n q) (n + 1) new) where
    abbrev piece : List State
    piece = adds (added_by it) (step_of (step_at it n q)) (state_at it n (q + 1)) (evidence_at it n q)

    -- what the step stands for
    data Piece : Type 0 where
      adds_none : new ≡ 0 → piece ≡ [] → Piece
      adds_one : (r : ℕ) → new ≡ r + 1 → r < n → piece ≡ added_by it r → Piece
      adds_own : new ≡ n + 1 → Piece

    the_piece : Piece
    the_piece = by (is_call (step_at it n q)) refl
      where
        by : (b : Bool) → is_call (step_at it n q) ≡ b → Piece
        by true k =
            let f : piece ≡ added_by it (evidence_at it n q) = adds_call (added_by it) (step_at it n q) _ (evidence_at it n q) k in
            let below = leads_below k (goes_at it c n h q l) in
            of (z.at (evidence_at it n q) below) below f
          where
            of : Lead (added_by it) (evidence_at it n q) (get_or leads (evidence_at it n q) 0) → evidence_at it n q < n
                → piece ≡ added_by it (evidence_at it n q) → Piece
            of (none e w) below f = adds_none (s.of_call k ∙ e) (f ∙ w)
            of (same r e le w) below f = adds_one r (s.of_call k ∙ e) (omega arith) (f ∙ sym w)
        by false k = of (s.of_other k)
          where
            of : (new ≡ n + 1) ⊎ ((t : State) → length (shown (step_of (step_at it n q)) t) ≡ 0) × (new ≡ 0) → Piece
            of (inl e) = adds_own e
            of (inr (w, e)) = adds_none e (adds_shown (added_by it) (step_at it n q) _ (evidence_at it n q) k ∙ no_states _ (w _))

    next : rest it n q ≡ piece ++ rest it n (q + 1)
    next = rest_next it c n h q l

    -- nothing before
    after_none : {to' : ℕ} → to' ≡ new → rest it n 0 ≡ rest it n q → Partly n (q + 1) to'
    after_none {to'} e p = by the_piece
      where
        by : Piece → Partly n (q + 1) to'
        by (adds_none w f) = nothing (e ∙ w) (p ∙ next ∙ ap (λ (a : List State). a ++ rest it n (q + 1)) f)
        by (adds_one r w lt f) = one r (e ∙ w) lt (p ∙ next ∙ ap (λ (a : List State). a ++ rest it n (q + 1)) f)
        by (adds_own w) = itself (e ∙ w)

    -- nothing new
    before_none : {to to' : ℕ} → to' ≡ to → new ≡ 0 → Partly n q to → Partly n (q + 1) to'
    before_none {to} {to'} e w = by the_piece
      where
        same_rest : piece ≡ [] → rest it n q ≡ rest it n (q + 1)
        same_rest f = next ∙ ap (λ (a : List State). a ++ rest it n (q + 1)) f

        by : Piece → Partly n q to → Partly n (q + 1) to'
        by (adds_one r x lt f) p = absurd (omega arith)
        by (adds_own x) p = absurd (omega arith)
        by (adds_none x f) (nothing y p) = nothing (e ∙ y) (p ∙ same_rest f)
        by (adds_none x f) (one r y lt p) = one r (e ∙ y) lt (p ∙ ap (λ (a : List State). added_by it r ++ a) (same_rest f))
        by (adds_none x f) (itself y) = itself (e ∙ y)

    pub partly_more : {to to' : ℕ} → Together to new (n + 1) to' → Partly n q to → Partly n (q + 1) to'
    partly_more {to} {to'} (second_only e g) p = by p
      where
        by : Partly n q to → Partly n (q + 1) to'
        by (nothing y a) = after_none g a
        by (one r y lt a) = absurd (omega arith)
        by (itself y) = absurd (omega arith)
    partly_more (first_only e g) p = before_none g e p
    partly_more (both_parts g) p = itself g

  pub partly_all : (n q : ℕ) {to : ℕ} → length (words_at it n) ≤ q → Partly n q to → Lead (added_by it) n to
  partly_all n q {to} l = by
    where
      end : rest it n q ≡ []
      end = rest_end it n q l

      by : Partly n q to → Lead (added_by it) n to
      by (nothing e p) = none e (rest_first it n ∙ p ∙ end)
      by (one r e lt p) =
          same r e (omega arith) (sym (rest_first it n ∙ p ∙ ap (λ (a : List State). added_by it r ++ a) end ∙ append-nil (added_by it r)))
      by (itself e) = same n e (omega arith) refl
