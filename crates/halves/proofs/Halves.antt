-- The ends of a goal cut at any place: those of the logic, and those that unrefused evaluations list. Assumes nothing.
use Prim.Native.Nat.{ℕ}
use mathlib.Core.Path.{◌≡◌, sym, ap, subst, ◌∙◌}
use mathlib.Core.List.{List, ◌++◌, map-append, Memᴰ}
use mathlib.Core.Logic.{◌↔◌}
use lib.ListN.{take, drop, take-append-drop}
use lib.Seq.{take_at}
use Rattle.steps.specs.State.{State}
use Rattle.steps.specs.Step.{Body}
use Rattle.steps.specs.Deduction.{Final}
use Rattle.steps.specs.Run.{End}
use Rattle.steps.specs.Words.{step_of, body_of, book_of}
use Rattle.steps.proofs.Deductions.{final_append}
use Rattle.evaluator.specs.Evaluated.{Asked, Lent, Told, run_asked}
use Rattle.evaluator.proofs.Determined.{Listing, as_it_was, with_ends, listing}
use Rattle.halves.specs.Cut.{first_half, second_half, Unrefused, Listed, CutAnywhere, EndsCut}

-- ---- the ends of the logic

-- The two halves, one after the other, are the goal.
goal_cut : (q : Asked) (k : ℕ) (D : State) → (first_half q k).goal ++ (second_half q k D).goal ≡ q.goal
goal_cut q k D = take-append-drop k q.goal

pub ends_cut : EndsCut
ends_cut q k D' =
    subst
    (λ (goal : List ℕ). Final (book_of q.rules) q.start (body_of goal) D' ↔ ((D : State) × End (run_asked (first_half q k)) D × End (run_asked (second_half q k D)) D'))
    (goal_cut q k D')
    (subst
    (λ (body : Body). Final (book_of q.rules) q.start body D' ↔ ((D : State) × End (run_asked (first_half q k)) D × End (run_asked (second_half q k D)) D'))
    (sym (map-append step_of (first_half q k).goal (second_half q k D').goal))
    (final_append (body_of (first_half q k).goal) (body_of (second_half q k D').goal)))

-- ---- the ends listed

-- a result without refusal counts places that hold just the ends
lists : {q : Asked} {before after : Lent} {r : Told} → Listing q before after r → r.refusal ≡ 0 → (D : State) → Memᴰ D (take r.ends after.ends) ↔ End (run_asked q) D
lists (as_it_was n s) z D = absurd (n z)
lists {q} {before} {after} {r} (with_ends z t l up is) _ D =
    subst (λ (xs : List ℕ). Memᴰ D xs ↔ End (run_asked q) D)
    (sym (ap (take r.ends) is ∙ take_at t.ends (drop r.ends before.ends) r.ends t.counted))
    (t.exactly.members D)

-- An unrefused evaluation lists just the ends.
pub lists_ends : {q : Asked} (u : Unrefused q) (D : State) → Listed u D ↔ End (run_asked q) D
lists_ends u = lists (listing u.evaluated) u.unrefused

pub cut_anywhere : CutAnywhere
cut_anywhere q k whole first second D' = (
  λ m. (let (D, a, b) = (ends_cut q k D').0 ((lists_ends whole D').0 m) in
      let l = (lists_ends first D).1 a in
      (D, l, (lists_ends (second D l) D').1 b)),
  λ (D, l, m). (lists_ends whole D').1 ((ends_cut q k D').1 (D, (lists_ends first D).0 l, (lists_ends (second D l) D').0 m)),
)
