-- Where a step word of a record leads, by its kind; one step of a walk. Assumes nothing.
use Prim.Native.Nat.{ℕ, suc, ◌+◌, ◌-◌, ◌%◌, ◌<◌, ◌≤◌}
use native.Mathlib.Numerals.{add-one}
use mathlib.Core.Path.{◌≡◌, refl, subst}
use mathlib.Core.Bool.{Bool, true, false, cond, ◌&&◌}
use mathlib.Core.List.{List, ◌∷◌}
use lib.ListN.{length, get_or, drop, drop_of_length-le}
use lib.Seq.{drop-cons}
use lib.Dec.{eqb, ltb}
use borrow.Author.Tests.{ltb-true}
use Rattle.steps.specs.State.{State}
use Rattle.steps.specs.Step.{Step, query, insert, delete, call, deny, Body}
use Rattle.steps.specs.Words.{step_of, body_of}
use Rattle.steps.specs.Inner.{is_call}
use Rattle.steps.specs.Acceptance.{each_below}
use Rattle.steps.specs.Elementary.{Onward, on, stuck, elementary}
use Rattle.steps.proofs.EachBelow.{both}
use Rattle.steps.proofs.WordLaws.{call_word, no_call}
use Rattle.records.specs.Records.{Calls, Answers, earlier, follow, follows}

module _ (calls : Calls) (answers : Answers) (n : ℕ) where
  -- an answer that comes before record n has a smaller number
  pub earlier_below : (e : ℕ) → earlier calls answers n e ≡ true → e < n
  earlier_below e h = ltb-true e n (both (ltb e n) _ h).0

  -- a call takes the named answer
  pub follow_call : (w : ℕ) (s : State) (e : ℕ) → is_call w ≡ true → follow calls answers n (step_of w) s e
      ≡ cond (earlier calls answers n e && (eqb (calls.action (answers.call e)) (w % 256) && eqb (calls.state (answers.call e)) s)) (on (answers.final e)) stuck
  unfolding follow
  follow_call w s e l = rw (call_word w l) refl

  follow_by : (x : Step) (s : State) (e : ℕ) → ((a : ℕ) → x ≡ call a → ⊥) → follow calls answers n x s e ≡ cond (eqb e 0) (elementary x s) stuck
  unfolding follow
  follow_by (call a) s e l = absurd (l a refl)
  follow_by (query p) s e l = refl
  follow_by (insert p) s e l = refl
  follow_by (delete p) s e l = refl
  follow_by (deny p) s e l = refl

  -- any other step is done
  pub follow_elementary : (w : ℕ) (s : State) (e : ℕ) → is_call w ≡ false → follow calls answers n (step_of w) s e ≡ cond (eqb e 0) (elementary (step_of w) s) stuck
  follow_elementary w s e l = follow_by (step_of w) s e (no_call w l)

  -- a step, then the steps after it
  follows_go : (q : ℕ) (s : State) (x : Step) (rest : Body) (o : Onward) → o ≡ follow calls answers n x s (answers.evidence n q)
      → ◌≡◌ {A = Bool} (follows calls answers n (x ∷ rest) q s) (elim o [ on t ↦ follows calls answers n rest (suc q) t | stuck ↦ false ])
  unfolding follows
  follows_go q s x rest o e =
      subst (λ (o' : Onward). ◌≡◌ {A = Bool} (elim o' [ on t ↦ follows calls answers n rest (suc q) t | stuck ↦ false ]) (elim o [ on t ↦ follows calls answers n rest (suc q) t | stuck ↦ false ])) e refl

  -- the words from place q on: the step there, then the words after it
  module _ (body : List ℕ) (q : ℕ) (s : State) where
    pub follows_on : (t : State) → q < length body → on t ≡ follow calls answers n (step_of (get_or body q 0)) s (answers.evidence n q)
        → follows calls answers n (body_of (drop q body)) q s ≡ follows calls answers n (body_of (drop (q + 1) body)) (q + 1) t
    follows_on t l e = rw (drop-cons body q 0 l, add-one) (follows_go q s (step_of (get_or body q 0)) (body_of (drop (suc q) body)) (on t) e)

    pub follows_stuck : q < length body → stuck ≡ follow calls answers n (step_of (get_or body q 0)) s (answers.evidence n q)
        → follows calls answers n (body_of (drop q body)) q s ≡ false
    follows_stuck l e = rw (drop-cons body q 0 l) (follows_go q s (step_of (get_or body q 0)) (body_of (drop (suc q) body)) stuck e)

    pub follows_end : length body ≤ q
        → follows calls answers n (body_of (drop q body)) q s ≡ (eqb s (answers.final n) && each_below (16 - q) (λ i. eqb (answers.evidence n (q + i)) 0))
    unfolding follows
    follows_end l = rw (drop_of_length-le body l) refl
