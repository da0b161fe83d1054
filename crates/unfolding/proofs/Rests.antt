-- What the walk of a checked record has left to add before each of its steps, the state there being the one that the walk comes to. Assumes nothing.
use Prim.Native.Nat.{ℕ, zero, suc, ◌+◌, ◌-◌, ◌<◌, ◌≤◌}
use native.Mathlib.Omega.{arith}
use native.Mathlib.Numerals.{add-one}
use mathlib.Core.Path.{◌≡◌, refl, sym, subst}
use mathlib.Core.Bool.{true}
use mathlib.Core.List.{List, [], ◌++◌}
use lib.ListN.{length}
use Rattle.steps.specs.State.{State}
use Rattle.steps.specs.Words.{step_of}
use Rattle.steps.specs.Inner.{is_call}
use Rattle.steps.specs.Elementary.{Onward, on, stuck}
use Rattle.records.specs.Records.{follow}
use Rattle.unfolding.specs.Path.{adds}
use Rattle.unfolding.proofs.Walk.{Lent, Checked, LeadsTo, leads_below, leads_final, calls_of, answers_of, words_at, step_at, evidence_at, added_by, start_at, Stands, left, stands_first, stands_goes, stands_next, left_first, left_next, left_end}

module _ (it : Lent) where
  -- The state that record n's walk comes to before step q.
  unfoldable pub state_at : ℕ → ℕ → State
  state_at n zero = start_at it n
  state_at n (suc q) =
      elim (follow (calls_of it) (answers_of it) n (step_of (step_at it n q)) (state_at n q) (evidence_at it n q))
      [ on t ↦ t | stuck ↦ 0 ]

  -- What its steps from q on add.
  abbrev pub rest : ℕ → ℕ → List State
  rest n q = left it n q (state_at n q)

  pub rest_first : (n : ℕ) → added_by it n ≡ rest n 0
  unfolding state_at
  rest_first n = left_first it n

  pub rest_end : (n q : ℕ) → length (words_at it n) ≤ q → rest n q ≡ []
  rest_end n q l = left_end it n q (state_at n q) l

  state_next : (n q : ℕ) {t : State} → LeadsTo it.plain it.calls it.answers n (step_at it n q) (state_at n q) (evidence_at it n q) t → state_at n (suc q) ≡ t
  unfolding state_at
  state_next n q {t} to = subst (λ (o : Onward). ◌≡◌ {A = State} (elim o [ on u ↦ u | stuck ↦ 0 ]) t) (sym to.leads) refl

  module _ {count : ℕ} (c : Checked it count) (n : ℕ) (h : n < count) where
    stands_at : (q : ℕ) → q ≤ length (words_at it n) → Stands it n q (state_at n q)
    unfolding state_at
    stands_at zero l = stands_first it c h
    stands_at (suc q) l = by (stands_goes it n q (state_at n q) (omega arith) (stands_at q (omega arith))) (stands_at q (omega arith))
      where
        by : (t : State) × LeadsTo it.plain it.calls it.answers n (step_at it n q) (state_at n q) (evidence_at it n q) t
            → Stands it n q (state_at n q) → Stands it n (suc q) (state_at n (suc q))
        by (t, to) s =
            subst (λ (u : State). Stands it n (suc q) u) (sym (state_next n q to))
            (subst (λ (k : ℕ). Stands it n k t) (add-one q) (stands_next it n q (state_at n q) (omega arith) t s to))

    module _ (q : ℕ) (l : q < length (words_at it n)) where
      pub goes_at : LeadsTo it.plain it.calls it.answers n (step_at it n q) (state_at n q) (evidence_at it n q) (state_at n (q + 1))
      goes_at = by (stands_goes it n q (state_at n q) l (stands_at q (omega arith)))
        where
          by : (t : State) × LeadsTo it.plain it.calls it.answers n (step_at it n q) (state_at n q) (evidence_at it n q) t
              → LeadsTo it.plain it.calls it.answers n (step_at it n q) (state_at n q) (evidence_at it n q) (state_at n (q + 1))
          by (t, to) = rw (add-one q, state_next n q to) to

      -- a step's states, then those of the steps after it
      pub rest_next : rest n q ≡ adds (added_by it) (step_of (step_at it n q)) (state_at n (q + 1)) (evidence_at it n q) ++ rest n (q + 1)
      rest_next = left_next it n q (state_at n q) l (state_at n (q + 1)) goes_at

      -- after a call the walk is in the final state of the record used
      pub final_at : is_call (step_at it n q) ≡ true → state_at n (q + 1) ≡ (answers_of it).final (evidence_at it n q)
      final_at k = leads_final k goes_at

  -- the state that the walk leads to is this one
  pub goes_same : (n q : ℕ) {t : State} → LeadsTo it.plain it.calls it.answers n (step_at it n q) (state_at n q) (evidence_at it n q) t → t ≡ state_at n (q + 1)
  goes_same n q to = rw (add-one q) (sym (state_next n q to))

-- The state before step q can be told without the steps before: the walk begins there, or the step before is a call.
pub data Fresh (it : Lent) (n q : ℕ) : Type 0 where
  begins : q ≡ 0 → Fresh it n q
  returns : (j : ℕ) → q ≡ j + 1 → j < length (words_at it n) → is_call (step_at it n j) ≡ true → Fresh it n q

-- where the walk does not begin, it is the final state of the record that the call before uses
pub fresh_final : {it : Lent} {count : ℕ} → Checked it count → (n q : ℕ) → n < count → Fresh it n q → (q ≡ 0 → ⊥)
    → (evidence_at it n (q - 1) < n) × (state_at it n q ≡ (answers_of it).final (evidence_at it n (q - 1)))
fresh_final c n q h (begins e) later = absurd (later e)
fresh_final {it} c n q h (returns j e l k) later =
    let back : q - 1 ≡ j = omega arith in
    rw (back, e) (leads_below k (goes_at it c n h j l), final_at it c n h j l k)
