-- Laws of the operation: its contract fixes what is told and left; where the paper says 0 the word is 0; a yes whose goal is one call is a bit of the
-- table; where yes, the state that the steps leave is an end of the goal. Assumes nothing.
use Prim.Native.Nat.{ℕ, zero, suc, ◌+◌, ◌*◌, ◌<◌, ◌≤◌}
use native.Mathlib.Omega.{arith}
use native.Mathlib.Decide.{dec_lt}
use mathlib.Core.Path.{◌≡◌, refl, sym, subst, ◌∙◌}
use mathlib.Core.List.{List, [], ◌∷◌, Memᴰ}
use lib.ListN.{get_or, length, take}
use lib.Seq.{ext_get_or}
use Rattle.steps.specs.State.{State, bit}
use Rattle.steps.specs.Step.{Step, call}
use Rattle.steps.specs.Words.{body_of, run_of}
use Rattle.steps.specs.Run.{End}
use Rattle.steps.specs.Elementary.{Onward, on, stuck, elementary}
use Rattle.steps.proofs.AcceptanceLaws.{goal_indexed}
use Rattle.steps.proofs.StateLaws.{no_bit, bits_same}
use Rattle.steps.proofs.WordLaws.{not_on}
use Rattle.masks.specs.Masks.{Wide}
use Rattle.marking.specs.Marking.{left_by, Question, Marked, TableMarked, RecordMarked, refused, marked}
use Rattle.marking.specs.Inner.{Ran}
use Rattle.marking.proofs.Marks.{marked_unique, yes_goal, evaluated_yes}
use Rattle.marking.proofs.Outcomes.{taken_of}

-- ---- the table and the answer are the only ones

two : (y z : ℕ) → y ≤ 1 → z ≤ 1 → (y ≡ 1 → z ≡ 1) → (z ≡ 1 → y ≡ 1) → y ≡ z
two zero zero l m f g = refl
two zero (suc z) l m f g = let e : zero ≡ 1 = g (omega arith) in omega arith
two (suc y) z l m f g = let e : z ≡ 1 = f (omega arith) in omega arith

tables_same : (q : Question) (before after after' : List ℕ) → Wide after → Wide after' → TableMarked q before after → TableMarked q before after' → after ≡ after'
tables_same q before after after' wide wide' t t' = ext_get_or 0 after after' (t.size ∙ sym t'.size) (λ n l. each n (dec_lt n 4096))
  where
    each : (n : ℕ) → Dec (n < 4096) → get_or after n 0 ≡ get_or after' n 0
    each n (yes h) = marked_unique q before before after after' wide wide' t t' n h
    each n (no h) = t.past n (omega arith) ∙ sym (t'.past n (omega arith))

-- Two outcomes of one question in one table, of words of 64 bits, tell and leave the same.
pub outcomes_same : (q : Question) (before after after' : List ℕ) (told told' answer answer' : ℕ) → Wide after → Wide after'
    → RecordMarked q before told answer after → RecordMarked q before told' answer' after' → (told ≡ told') × (answer ≡ answer') × (after ≡ after')
outcomes_same q before after after' told told' answer answer' wide wide' (refused ne e f g) (refused ne' e' f' g') = (e ∙ sym e', f ∙ sym f', g ∙ sym g')
outcomes_same q before after after' told told' answer answer' wide wide' (refused ne e f g) (marked z e' l' y' t') = absurd (ne z)
outcomes_same q before after after' told told' answer answer' wide wide' (marked z e l y t) (refused ne e' f' g') = absurd (ne z)
outcomes_same q before after after' told told' answer answer' wide wide' (marked z e l y t) (marked z' e' l' y' t') =
    (e ∙ sym e', two answer answer' l l' (λ h. y'.1 (y.0 h)) (λ h. y.1 (y'.0 h)), tables_same q before after after' wide wide' t t')

-- ---- words that are 0

module _ (q : Question) (before after : List ℕ) (wide : Wide after) (t : TableMarked q before after) (a i : ℕ) (la : a < 64) (li : i < 64) where
  none_marked : ((j : ℕ) → Marked q a i j → ⊥) → get_or after (64 * a + i) 0 ≡ 0
  none_marked none = bits_same 64 _ 0 (wide (64 * a + i)) (omega arith) (λ j l. clear j (t.bits a i j la li l).0 ∙ sym (no_bit j))
    where
      clear : (j : ℕ) → (bit (get_or after (64 * a + i) 0) j ≡ 1 → Marked q a i j) → bit (get_or after (64 * a + i) 0) j ≡ 0
      clear j f = zero_or (bit (get_or after (64 * a + i) 0) j) (omega arith) (λ e. none j (f e))
        where
          zero_or : (b : ℕ) → b < 2 → (b ≡ 1 → ⊥) → b ≡ 0
          zero_or b l n = omega arith

  -- "for an action at or above the count",
  pub zero_action : q.actions ≤ a → get_or after (64 * a + i) 0 ≡ 0
  zero_action l = none_marked (λ j m. omega (arith, m.action))

  -- "for a place past the record's end",
  pub zero_past : length q.words < i → get_or after (64 * a + i) 0 ≡ 0
  zero_past l = none_marked (λ j m. omega (arith, m.from, m.to))

  -- "and for a place after a step that cannot run": the steps before it leave no state
  pub zero_stuck : left_by (take i (body_of q.words)) q.start ≡ stuck → get_or after (64 * a + i) 0 ≡ 0
  zero_stuck e = none_marked (λ j m. not_on (sym e ∙ m.left))

-- ---- a yes

-- a record runs as far as it can
ran_of : (steps : List Step) (start : State) → (runs : ℕ) × Ran steps start runs
unfolding left_by
ran_of [] start = (0, record { within = omega arith; state = start; left = refl; stops = λ h. absurd (omega arith) })
ran_of (x ∷ rest) start = by (elementary x start) refl (ran_of rest)
  where
    by : (o : Onward) → elementary x start ≡ o → ((s : State) → (runs : ℕ) × Ran rest s runs) → (runs : ℕ) × Ran (x ∷ rest) start runs
    by (on s) e more = let (n, ran) = more s in (suc n, record { within = omega (arith, ran.within); state = ran.state; left = rw (e, left_by) ran.left; stops = λ h. ran.stops (omega arith) })
    by stuck e more = (0, record { within = omega arith; state = start; left = refl; stops = λ h. e })

-- Where the goal is one call, the answer is a bit of the table.
pub yes_is_bit : (q : Question) (before after : List ℕ) (answer a : ℕ) → RecordMarked q before 0 answer after → body_of q.goal ≡ call a ∷ []
    → answer ≡ bit (get_or after (64 * a) 0) (length q.words)
yes_is_bit q before after answer a (refused ne e f g) goal = absurd (ne (sym e))
yes_is_bit q before after answer a (marked z e l y t) goal =
    let (runs, ran) = ran_of (body_of q.words) q.start in
    let taken = taken_of q (length before) z ran in
    let la : a < q.actions = goal_indexed taken.accepted (call a) (subst (Memᴰ (call a)) (sym goal) (Memᴰ.head refl)) in
    let (to, from) = yes_goal q before after a goal la taken.accepted.few_actions (omega (arith, taken.few)) t in
    two answer (bit (get_or after (64 * a) 0) (length q.words)) l (omega arith) (λ h. to (y.0 h)) (λ h. y.1 (from h))

-- Where yes, the steps leave a state, and it is an end of the goal.
pub yes_is_end : (q : Question) (before after : List ℕ) → RecordMarked q before 0 1 after
    → (D : State) × (left_by (body_of q.words) q.start ≡ on D) × End (run_of q.rules q.goal q.start) D
yes_is_end q before after (refused ne e f g) = absurd (ne (sym e))
yes_is_end q before after (marked z e l y t) =
    let (runs, ran) = ran_of (body_of q.words) q.start in
    evaluated_yes q runs (taken_of q (length before) z ran) (y.0 refl)
