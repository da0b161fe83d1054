-- Sizes: how many states each record adds, counted up to a cap. Assumes nothing.
use Prim.Native.Nat.{ℕ, ◌+◌, ◌<◌, ◌≤◌, min}
use native.Mathlib.Omega.{arith}
use native.Mathlib.Nat.{zero-add}
use mathlib.Core.Path.{◌≡◌, refl, sym, ap, ◌∙◌}
use mathlib.Core.Bool.{Bool, true, false, cond}
use mathlib.Core.List.{List}
use lib.ListN.{length, get_or, take, set, length-append}
use lib.Seq.{get_or-take, get_or-set_same, get_or-set_other}
use lib.Dec.{eqb}
use borrow.Author.Tests.{eqb-true, eqb-false}
use Rattle.steps.specs.State.{State}
use Rattle.steps.specs.Words.{step_of}
use Rattle.steps.specs.Inner.{is_call}
use Rattle.unfolding.specs.Path.{shown, adds}
use Rattle.unfolding.proofs.Walk.{Lent, LeadsTo, leads_below, adds_call, adds_shown, shown_small, words_at, step_at, evidence_at, added_by, start_at, Stands, left, stands_next, left_first, left_next, left_end}

-- Of each record below count: how many states it adds, at most the cap.
pub record Sized (f : ℕ → List State) (sizes : List ℕ) (count cap : ℕ) : Type 0 where
  pub at : (x : ℕ) → x < count → get_or sizes x 0 ≡ min cap (length (f x))

pub sized_none : (f : ℕ → List State) (sizes : List ℕ) (cap : ℕ) → Sized f sizes 0 cap
sized_none f sizes cap = record { at = λ x l. absurd (omega arith) }

pub sized_more : {f : ℕ → List State} {sizes : List ℕ} {n cap m : ℕ} → Sized f sizes n cap → n < length sizes → m ≡ min cap (length (f n)) → Sized f (set sizes n m) (n + 1) cap
sized_more {f} {sizes} {n} {cap} {m} z l e = record { at = λ x h. by x h (eqb x n) refl }
  where
    by : (x : ℕ) → x < n + 1 → (b : Bool) → eqb x n ≡ b → get_or (set sizes n m) x 0 ≡ min cap (length (f x))
    by x h true q = rw (eqb-true x n q) (get_or-set_same sizes n m 0 l ∙ e)
    by x h false q = let d : (x ≡ n → ⊥) = eqb-false x n q in get_or-set_other sizes n x m 0 d ∙ z.at x (omega arith)

pub sized_less : {f : ℕ → List State} {sizes : List ℕ} {count n cap : ℕ} → n ≤ count → Sized f sizes count cap → Sized f sizes n cap
sized_less l z = record { at = λ x h. z.at x (omega arith) }

pub sized_take : {f : ℕ → List State} {sizes : List ℕ} {n cap : ℕ} → Sized f sizes n cap → Sized f (take n sizes) n cap
sized_take {sizes = sizes} {n} z = record { at = λ x h. get_or-take n sizes x 0 h ∙ z.at x h }

-- How many states a step word adds, by the sizes of the records below.
unfoldable pub size_of : List ℕ → ℕ → State → ℕ → ℕ
size_of sizes w t e = cond (is_call w) (get_or sizes e 0) (length (shown (step_of w) t))

-- What one step of a walk gives: the state that it leads to, and how many states it adds.
pub record Turned (plain : Bool) (calls answers sizes : List ℕ) (n w : ℕ) (s : State) (e : ℕ) (t : State) (size : ℕ) : Type 0 where
  pub to : LeadsTo plain calls answers n w s e t
  pub sized : size ≡ size_of sizes w t e

size_call : (sizes : List ℕ) (w : ℕ) (t : State) (e : ℕ) → is_call w ≡ true → size_of sizes w t e ≡ get_or sizes e 0
unfolding size_of
size_call sizes w t e l = rw l refl

size_shown : (sizes : List ℕ) (w : ℕ) (t : State) (e : ℕ) → is_call w ≡ false → size_of sizes w t e ≡ length (shown (step_of w) t)
unfolding size_of
size_shown sizes w t e l = rw l refl

module _ (f : ℕ → List State) {plain : Bool} {calls answers sizes : List ℕ} {n w : ℕ} {s : State} {e : ℕ} {t : State} {size cap : ℕ}
    (z : Sized f sizes n cap) (u : Turned plain calls answers sizes n w s e t size) where
  -- it counts what the step adds, up to the cap
  pub turned_size : min cap size ≡ min cap (length (adds f (step_of w) t e))
  turned_size = by (is_call w) refl
    where
      by : (b : Bool) → is_call w ≡ b → min cap size ≡ min cap (length (adds f (step_of w) t e))
      by true l =
          rw (adds_call f w t e l) (let h : size ≡ get_or sizes e 0 = u.sized ∙ size_call sizes w t e l in omega (arith, z.at e (leads_below l u.to)))
      by false l =
          rw (adds_shown f w t e l) (ap (min cap) (u.sized ∙ size_shown sizes w t e l))

  pub turned_small : size ≤ cap + 1
  turned_small = by (is_call w) refl
    where
      by : (b : Bool) → is_call w ≡ b → size ≤ cap + 1
      by true l =
          (let h : size ≡ get_or sizes e 0 = u.sized ∙ size_call sizes w t e l in omega (arith, z.at e (leads_below l u.to)))
      by false l =
          (let h : size ≡ length (shown (step_of w) t) = u.sized ∙ size_shown sizes w t e l in omega (arith, shown_small (step_of w) t))

  -- exactly, where there is room
  pub turned_exact : length (adds f (step_of w) t e) ≤ cap → 0 < cap → size ≡ length (adds f (step_of w) t e)
  turned_exact r p = by (is_call w) refl
    where
      by : (b : Bool) → is_call w ≡ b → size ≡ length (adds f (step_of w) t e)
      by true l =
          (let h : size ≡ get_or sizes e 0 = u.sized ∙ size_call sizes w t e l in
          let k : adds f (step_of w) t e ≡ f e = adds_call f w t e l in
          let k' : length (adds f (step_of w) t e) ≡ length (f e) = ap length k in
          omega (arith, z.at e (leads_below l u.to)))
      by false l =
          u.sized ∙ size_shown sizes w t e l ∙ sym (ap length (adds_shown f w t e l))

-- ---- counting one record

module _ (it : Lent) where
  -- The count so far and what is left make up what record n adds.
  pub record Counted (n q : ℕ) (s : State) (sum cap : ℕ) : Type 0 where
    pub stands : Stands it n q s
    pub most : sum ≤ cap
    pub whole : min cap (sum + length (left it n q s)) ≡ min cap (length (added_by it n))

  pub counted_none : {n cap : ℕ} → Stands it n 0 (start_at it n) → Counted n 0 (start_at it n) 0 cap
  counted_none {n} {cap} h = record { stands = h; most = omega arith; whole = rw zero-add (ap (λ (l : List State). min cap (length l)) (sym (left_first it n))) }

  pub counted_more : (n q : ℕ) (s : State) (sum cap : ℕ) {t : State} {size : ℕ} {sizes : List ℕ} → Counted n q s sum cap → q < length (words_at it n)
      → Sized (added_by it) sizes n cap → Turned it.plain it.calls it.answers sizes n (step_at it n q) s (evidence_at it n q) t size
      → Counted n (q + 1) t (min cap (sum + size)) cap
  counted_more n q s sum cap {t} {size} {sizes} c l z u = record {
    stands = stands_next it n q s l t c.stands u.to;
    most = omega arith;
    whole = (let e : length (left it n q s) ≡ length (adds (added_by it) (step_of (step_at it n q)) t (evidence_at it n q)) + length (left it n (q + 1) t) =
        ap length (left_next it n q s l t u.to) ∙ length-append (adds (added_by it) (step_of (step_at it n q)) t (evidence_at it n q)) (left it n (q + 1) t) in
        omega (arith, c.whole, turned_size (added_by it) z u));
  }

  pub counted_all : (n q : ℕ) (s : State) (sum cap : ℕ) → Counted n q s sum cap → length (words_at it n) ≤ q → sum ≡ min cap (length (added_by it n))
  counted_all n q s sum cap c l =
      let e : length (left it n q s) ≡ 0 = ap length (left_end it n q s l) in
      omega (arith, c.whole, c.most)
