-- The walk of one checked record, step by step: where it stands, what is left to add, and how much a step adds. Assumes nothing.
use Prim.Native.Nat.{ℕ, zero, suc, ◌+◌, ◌/◌, ◌%◌, ◌<◌, ◌≤◌}
use native.Mathlib.Omega.{arith}
use native.Mathlib.Numerals.{add-one}
use mathlib.Core.Path.{◌≡◌, refl, sym, subst, ◌∙◌}
use mathlib.Core.Bool.{Bool, true, false, cond, ◌||◌}
use mathlib.Core.List.{List, [], ◌∷◌, ◌++◌}
use lib.ListN.{length, get_or, drop, drop_of_length-le}
use lib.Seq.{drop-cons}
use lib.Dec.{eqb}
use borrow.Author.Tests.{eqb-true, ne_eqb}
use Rattle.steps.specs.State.{State}
use Rattle.steps.specs.Step.{Step, query, insert, delete, call, deny, Body}
use Rattle.steps.specs.Words.{step_by, step_of, body_of}
use Rattle.steps.specs.Inner.{is_call}
use Rattle.steps.specs.Elementary.{Onward, on, stuck, elementary}
use Rattle.steps.proofs.EachBelow.{true_not_false}
use Rattle.steps.proofs.WordLaws.{call_word, no_call, not_on}
use Rattle.records.specs.Records.{Calls, Answers, Bodies, follow, follows}
use Rattle.records.specs.Storage.{calls_in, answers_in, call_width_of, answer_width_of}
use Rattle.records.specs.Bodies.{Short, bodies_with}
use Rattle.checks.specs.Readable.{Readable}
use Rattle.checks.proofs.WidthLaws.{answers_less}
use Rattle.checks.proofs.FollowLaws.{follow_elementary, follows_on, follows_stuck}
use Rattle.unfolding.specs.Path.{shown, adds, walked, states_added}
use Rattle.unfolding.proofs.Below.{call_below, call_final, added_walk}

-- ---- what is lent to be walked

-- Rule words, goal words and two tables, of plain records or of such with rounds. Plain records are those that two parties share, with a goal each.
abbrev pub Lent : Type 0
Lent = record { plain : Bool; rules : List ℕ; goal : List ℕ; second : List ℕ; calls : List ℕ; answers : List ℕ }

abbrev pub lent : Bool → List ℕ → List ℕ → List ℕ → List ℕ → List ℕ → Lent
lent plain rules goal second calls answers = record { plain = plain; rules = rules; goal = goal; second = second; calls = calls; answers = answers }

-- Records of either kind, however many are counted.
abbrev pub rows_of : Bool → List ℕ → Calls
rows_of plain calls = calls_in (call_width_of plain) calls 0

abbrev pub ends_of : Bool → List ℕ → Answers
ends_of plain answers = answers_in (answer_width_of plain) answers 0

-- The records lent, and the bodies.
abbrev pub calls_of : Lent → Calls
calls_of it = rows_of it.plain it.calls

abbrev pub answers_of : Lent → Answers
answers_of it = ends_of it.plain it.answers

abbrev pub bodies_lent : Lent → Bodies
bodies_lent it = bodies_with it.rules true it.plain it.goal it.second

-- the step words of record n, and the state of its call
abbrev pub words_at : Lent → ℕ → List ℕ
words_at it n = (bodies_lent it).words ((answers_of it).rule n) ((calls_of it).action ((answers_of it).call n))

abbrev pub start_at : Lent → ℕ → State
start_at it n = (calls_of it).state ((answers_of it).call n)

abbrev pub step_at : Lent → ℕ → ℕ → ℕ
step_at it n q = get_or (words_at it n) q 0

abbrev pub evidence_at : Lent → ℕ → ℕ → ℕ
evidence_at it n q = (answers_of it).evidence n q

-- what record n adds
abbrev pub added_by : Lent → ℕ → List State
added_by it = states_added (calls_of it) (answers_of it) (bodies_lent it)

-- a run alone has one goal, whatever the action
pub words_alone : (it : Lent) (i a b : ℕ) → (it.plain ≡ true → a ≡ b) → (bodies_lent it).words i a ≡ (bodies_lent it).words i b
words_alone it i a b e = by it.plain refl
  where
    by : (p : Bool) → it.plain ≡ p → (bodies_with it.rules true p it.goal it.second).words i a ≡ (bodies_with it.rules true p it.goal it.second).words i b
    by true z = rw (e z) refl
    by false z = refl

-- The records below count are checked.
pub record Checked (it : Lent) (count : ℕ) : Type 0 where
  pub short : Short it.rules it.goal
  pub short_second : Short it.rules it.second
  pub readable : Readable it.plain it.calls it.answers count
  pub fits : (n : ℕ) → n < count → (a : ℕ) × ((bodies_lent it).fits ((answers_of it).rule n) a ≡ true)
  pub followed : (n : ℕ) → n < count → follows (calls_of it) (answers_of it) n (body_of (words_at it n)) 0 (start_at it n) ≡ true

pub checked_less : {it : Lent} {count n : ℕ} → n ≤ count → Checked it count → Checked it n
checked_less {it} {count} {n} l c =
    record {
      short = c.short;
      short_second = c.short_second;
      readable = record { most = omega (arith, c.readable.most); long = answers_less it.plain n c.readable.long l; called = λ x h. c.readable.called x (omega arith) };
      fits = λ x h. c.fits x (omega arith);
      followed = λ x h. c.followed x (omega arith);
    }

-- ---- one step

-- A step of record n leads from s to t with evidence e.
pub record LeadsTo (plain : Bool) (calls answers : List ℕ) (n w : ℕ) (s : State) (e : ℕ) (t : State) : Type 0 where
  pub leads : follow (rows_of plain calls) (ends_of plain answers) n (step_of w) s e ≡ on t

-- a call uses a smaller record
pub leads_below : {plain : Bool} {calls answers : List ℕ} {n w : ℕ} {s : State} {e : ℕ} {t : State} → is_call w ≡ true → LeadsTo plain calls answers n w s e t → e < n
leads_below {plain} {calls} {answers} {n} {w} {s} {e} {t} l h =
    call_below (rows_of plain calls) (ends_of plain answers) n (w % 256) s t e (rw (call_word w l) at h.leads)

-- and leads to its final state;
pub leads_final : {plain : Bool} {calls answers : List ℕ} {n w : ℕ} {s : State} {e : ℕ} {t : State} → is_call w ≡ true → LeadsTo plain calls answers n w s e t → t ≡ (ends_of plain answers).final e
leads_final {plain} {calls} {answers} {n} {w} {s} {e} {t} l h =
    call_final (rows_of plain calls) (ends_of plain answers) n (w % 256) s t e (rw (call_word w l) at h.leads)

-- any other step is done, and has no evidence
leads_done : {plain : Bool} {calls answers : List ℕ} {n w : ℕ} {s : State} {e : ℕ} {t : State} → is_call w ≡ false → LeadsTo plain calls answers n w s e t
    → (e ≡ 0) × (elementary (step_of w) s ≡ on t)
leads_done {plain} {calls} {answers} {n} {w} {s} {e} {t} l h = by (eqb e 0) refl (sym (follow_elementary (rows_of plain calls) (ends_of plain answers) n w s e l) ∙ h.leads)
  where
    by : (b : Bool) → eqb e 0 ≡ b → cond b (elementary (step_of w) s) stuck ≡ on t → (e ≡ 0) × (elementary (step_of w) s ≡ on t)
    by true z k = (eqb-true e 0 z, k)
    by false z k = absurd (not_on k)

pub leads_elementary : {plain : Bool} {calls answers : List ℕ} {n w : ℕ} {s : State} {e : ℕ} {t : State} → is_call w ≡ false → LeadsTo plain calls answers n w s e t
    → elementary (step_of w) s ≡ on t
leads_elementary l h = (leads_done l h).1

-- any evidence is at most the record's own number
pub leads_most : {plain : Bool} {calls answers : List ℕ} {n w : ℕ} {s : State} {e : ℕ} {t : State} → LeadsTo plain calls answers n w s e t → e ≤ n
leads_most {n = n} {w} {e = e} h = by (is_call w) refl
  where
    by : (b : Bool) → is_call w ≡ b → e ≤ n
    by true z = omega (arith, leads_below z h)
    by false z = omega (arith, (leads_done z h).0)

pub adds_call : (f : ℕ → List State) (w : ℕ) (t : State) (e : ℕ) → is_call w ≡ true → adds f (step_of w) t e ≡ f e
unfolding adds
adds_call f w t e l = rw (call_word w l) refl

adds_by : (f : ℕ → List State) (x : Step) (t : State) (e : ℕ) → ((a : ℕ) → x ≡ call a → ⊥) → adds f x t e ≡ shown x t
unfolding adds
adds_by f (call a) t e l = absurd (l a refl)
adds_by f (query p) t e l = refl
adds_by f (insert p) t e l = refl
adds_by f (delete p) t e l = refl
adds_by f (deny p) t e l = refl

pub adds_shown : (f : ℕ → List State) (w : ℕ) (t : State) (e : ℕ) → is_call w ≡ false → adds f (step_of w) t e ≡ shown (step_of w) t
adds_shown f w t e l = adds_by f (step_of w) t e (no_call w l)

-- all that the code knows of `shown`: it is the new state or nothing,
pub shown_small : (x : Step) (t : State) → length (shown x t) ≤ 1
unfolding shown
shown_small (query p) t = omega arith
shown_small (insert p) t = omega arith
shown_small (delete p) t = omega arith
shown_small (call a) t = omega arith
shown_small (deny p) t = omega arith

pub shown_new : (x : Step) (t : State) → 0 < length (shown x t) → get_or (shown x t) 0 0 ≡ t
unfolding shown
shown_new (query p) t l = absurd (omega arith)
shown_new (insert p) t l = refl
shown_new (delete p) t l = refl
shown_new (call a) t l = absurd (omega arith)
shown_new (deny p) t l = absurd (omega arith)

-- and how many states it is: one for an insert or a delete
shown_by : (k i : ℕ) (t : State) → length (shown (step_by k i) t) ≡ cond (eqb k 1 || eqb k 2) 1 0
unfolding shown step_by
shown_by zero i t = refl
shown_by (suc zero) i t = refl
shown_by (suc (suc zero)) i t = refl
shown_by (suc (suc (suc zero))) i t = refl
shown_by (suc (suc (suc (suc k)))) i t = rw (ne_eqb (suc (suc (suc (suc k)))) 1 (λ e. omega arith), ne_eqb (suc (suc (suc (suc k)))) 2 (λ e. omega arith)) refl

pub shown_length : (w : ℕ) (t : State) → length (shown (step_of w) t) ≡ cond (eqb (w / 256) 1 || eqb (w / 256) 2) 1 0
shown_length w = shown_by (w / 256) (w % 256)

-- a step, then the steps after it
walked_next : (calls : Calls) (answers : Answers) (n : ℕ) (f : ℕ → List State) (x : Step) (rest : Body) (q : ℕ) (s t : State) → follow calls answers n x s (answers.evidence n q) ≡ on t
    → walked calls answers n f (x ∷ rest) q s ≡ adds f x t (answers.evidence n q) ++ walked calls answers n f rest (suc q) t
unfolding walked
walked_next calls answers n f x rest q s t e =
    subst (λ (o : Onward). ◌≡◌ {A = List State} (elim o [ on u ↦ adds f x u (answers.evidence n q) ++ walked calls answers n f rest (suc q) u | stuck ↦ [] ])
    (adds f x t (answers.evidence n q) ++ walked calls answers n f rest (suc q) t)) (sym e) refl

-- ---- the walk

module _ (it : Lent) where
  -- The walk of record n stands at place q in state s.
  pub record Stands (n q : ℕ) (s : State) : Type 0 where
    pub within : q ≤ length (words_at it n)
    pub goes : follows (calls_of it) (answers_of it) n (body_of (drop q (words_at it n))) q s ≡ true

  -- what the steps from there on add
  abbrev pub left : ℕ → ℕ → State → List State
  left n q s = walked (calls_of it) (answers_of it) n (added_by it) (body_of (drop q (words_at it n))) q s

  pub stands_first : {count n : ℕ} → Checked it count → n < count → Stands n 0 (start_at it n)
  stands_first {count} {n} c l = record { within = omega arith; goes = c.followed n l }

  pub left_first : (n : ℕ) → added_by it n ≡ left n 0 (start_at it n)
  left_first n = added_walk (calls_of it) (answers_of it) (bodies_lent it) n

  module _ (n q : ℕ) (s : State) (l : q < length (words_at it n)) where
    pub stands_goes : Stands n q s → (t : State) × LeadsTo it.plain it.calls it.answers n (step_at it n q) s (evidence_at it n q) t
    stands_goes h = by (follow (calls_of it) (answers_of it) n (step_of (step_at it n q)) s (evidence_at it n q)) refl
      where
        by : (o : Onward) → follow (calls_of it) (answers_of it) n (step_of (step_at it n q)) s (evidence_at it n q) ≡ o
            → (t : State) × LeadsTo it.plain it.calls it.answers n (step_at it n q) s (evidence_at it n q) t
        by (on t) e = (t, record { leads = e })
        by stuck e = absurd (true_not_false (sym h.goes ∙ follows_stuck (calls_of it) (answers_of it) n (words_at it n) q s l (sym e)))

    pub stands_next : (t : State) → Stands n q s → LeadsTo it.plain it.calls it.answers n (step_at it n q) s (evidence_at it n q) t → Stands n (q + 1) t
    stands_next t h e = record {
      within = omega arith;
      goes = sym (follows_on (calls_of it) (answers_of it) n (words_at it n) q s t l (sym e.leads)) ∙ h.goes;
    }

    pub left_next : (t : State) → LeadsTo it.plain it.calls it.answers n (step_at it n q) s (evidence_at it n q) t
        → left n q s ≡ adds (added_by it) (step_of (step_at it n q)) t (evidence_at it n q) ++ left n (q + 1) t
    left_next t e =
        rw (drop-cons (words_at it n) q 0 l, add-one q)
        (walked_next (calls_of it) (answers_of it) n (added_by it) (step_of (step_at it n q)) (body_of (drop (suc q) (words_at it n))) q s t e.leads)

  pub left_end : (n q : ℕ) (s : State) → length (words_at it n) ≤ q → left n q s ≡ []
  unfolding walked
  left_end n q s l = rw (drop_of_length-le (words_at it n) l) refl
