-- Gains followed at a place: an execution comes to each place that is noted, and so to each that is added. Assumes nothing.
use Prim.Native.Nat.{ℕ, zero, suc, ◌+◌, ◌*◌, ◌/◌, ◌%◌, ◌^◌, ◌<◌, ◌≤◌, min}
use native.Mathlib.Omega.{arith}
use native.Mathlib.Decide.{ℕ_discrete}
use mathlib.Core.Path.{◌≡◌, refl, sym, ap, subst, ◌∙◌}
use mathlib.Core.Bool.{Bool, true}
use mathlib.Core.List.{List, [], ◌∷◌}
use mathlib.Core.Logic.{⊎_elim}
use lib.Bits.{bit_or, bit_and, and_step, and_shr}
use lib.ListN.{get_or, length, take, set, replicate, length-set}
use lib.Seq.{get_or-set_same, get_or-set_other, take_all}
use borrow.Author.Tests.{eqb-true}
use Rattle.steps.specs.State.{bit, holds}
use Rattle.steps.specs.Step.{Body}
use Rattle.steps.specs.Words.{body_of, words_of, book_of}
use Rattle.steps.specs.Widths.{rule_width}
use Rattle.steps.proofs.Deductions.{RuleOf}
use Rattle.steps.proofs.Execution.{Runs, ended, runs_join}
use Rattle.steps.proofs.StateLaws.{no_bit}
use Rattle.steps.proofs.Tables.{walk_runs}
use Rattle.masks.specs.Masks.{Carried, WalkTo, Grown, SoundMarks, Added, Settled, Came, Noted, Ready}
use Rattle.masks.proofs.Walking.{From, or_split, bit_one, one_more}
use Rattle.gains.proofs.Widening.{guide_kept, grown_then, added_grown, added_sound}

bit_of_and : (a b j : ℕ) → bit (bit_and a b) j ≡ min (bit a j) (bit b j)
bit_of_and a b j = ap (λ (n : ℕ). n % 2) (and_shr a b j ∙ and_step (a / 2 ^ j) (b / 2 ^ j)) ∙ omega arith

pub and_left : (a b j : ℕ) → bit (bit_and a b) j ≡ 1 → bit a j ≡ 1
and_left a b j e = omega (arith, e, bit_of_and a b j)

pub nothing : (k n : ℕ) → ◌≡◌ {A = ℕ} (get_or (replicate k 0) n 0) 0
nothing zero n = refl
nothing (suc k) zero = refl
nothing (suc k) (suc n) = nothing k n

module _ (rules steps : List ℕ) (runs i : ℕ) where
  -- ---- executions of the first steps of a rule

  -- of none
  pub came_start : (r : ℕ) → Came rules steps runs i r 0 (2 ^ i)
  came_start r j l e = subst (λ (j : ℕ). Runs (Carried (body_of steps) runs) (RuleOf (book_of rules)) i [] j) (sym (bit_one i j e)) ended

  -- of one more: where that step comes to, walked over a table in which nothing is wrong
  pub came_step : {table : List ℕ} → SoundMarks rules steps runs table → (r p mask out : ℕ) → p < length (words_of rules r) → Came rules steps runs i r p mask
      → ((j : ℕ) → j < 64 → bit out j ≡ 1 → From mask (λ q. WalkTo steps runs table q (get_or (words_of rules r) p 0 ∷ [])) j) → Came rules steps runs i r (p + 1) out
  came_step sound r p mask out l came right j lj e =
      let (q, lq, h, w) = right j lj e in
      subst (λ (b : Body). Runs (Carried (body_of steps) runs) (RuleOf (book_of rules)) i b j) (sym (one_more (words_of rules r) p l))
      (runs_join (came q lq h) (walk_runs (Carried (body_of steps) runs) (RuleOf (book_of rules)) (λ a p. p ≤ runs) (λ b p q h. (sound.each b p q h).1) w))

  -- of one more behind a step before which the place itself is noted
  pub came_behind : {table notes : List ℕ} (n out : ℕ) → Ready rules steps runs i table notes → n % 17 < length (words_of rules (n / 17)) → holds (get_or notes n 0) i ≡ true
      → ((j : ℕ) → j < 64 → bit out j ≡ 1 → WalkTo steps runs table i (get_or (words_of rules (n / 17)) (n % 17) 0 ∷ []) j)
      → Came rules steps runs i (n / 17) (n % 17 + 1) out
  came_behind {notes = notes} n out ready l h right =
      let e : 17 * (n / 17) + n % 17 ≡ n = omega arith in
      let low : i < 64 = omega (arith, ready.place, ready.guide.within, ready.guide.few) in
      came_step ready.sound (n / 17) (n % 17) (get_or notes n 0) out l (subst (λ (k : ℕ). Came rules steps runs i (n / 17) (n % 17) (get_or notes k 0)) e (ready.noted.each (n / 17) (n % 17) (omega arith)))
      (λ j lj b. (i, low, eqb-true _ _ h, right j lj b))

  -- of all
  pub came_all : (r p mask : ℕ) → length (words_of rules r) ≤ p → Came rules steps runs i r p mask
      → (j : ℕ) → j < 64 → bit mask j ≡ 1 → Runs (Carried (body_of steps) runs) (RuleOf (book_of rules)) i (body_of (words_of rules r)) j
  came_all r p mask l came j lj e =
      subst (λ (ws : List ℕ). Runs (Carried (body_of steps) runs) (RuleOf (book_of rules)) i (body_of ws) j) (take_all p (words_of rules r) l) (came j lj e)

  -- ---- notes

  pub noted_none : (notes : List ℕ) → 4352 ≤ length notes → ((n : ℕ) → get_or notes n 0 ≡ 0) → Noted rules steps runs i notes
  noted_none notes l none = record { room = l; each = λ r p h j lj e. absurd (omega (arith, no_bit j, subst (λ (w : ℕ). bit w j ≡ 1) (none (17 * r + p)) e)) }

  pub noted_more : {notes after : List ℕ} (r p found : ℕ) → Noted rules steps runs i notes → p ≤ 16 → 17 * r + p < length notes → Came rules steps runs i r p found
      → after ≡ set notes (17 * r + p) (bit_or (get_or notes (17 * r + p) 0) found) → Noted rules steps runs i after
  noted_more {notes} {after} r p found noted lp la came put = record {
    room = omega (arith, noted.room, ap length put ∙ length-set notes (17 * r + p) _);
    each = λ s q lq. by s q lq (ℕ_discrete (17 * s + q) (17 * r + p));
  }
    where
      same : (j : ℕ) → j < 64 → bit (get_or after (17 * r + p) 0) j ≡ 1 → Runs (Carried (body_of steps) runs) (RuleOf (book_of rules)) i (body_of (take p (words_of rules r))) j
      same j lj e =
          let f : bit (bit_or (get_or notes (17 * r + p) 0) found) j ≡ 1 =
          subst (λ (w : ℕ). bit w j ≡ 1) (ap (λ (l : List ℕ). get_or l (17 * r + p) 0) put ∙ get_or-set_same notes (17 * r + p) _ 0 la) e in
          ⊎_elim (noted.each r p lp j lj) (came j lj) (or_split (get_or notes (17 * r + p) 0) found j f)

      by : (s q : ℕ) → q ≤ 16 → Dec (17 * s + q ≡ 17 * r + p) → Came rules steps runs i s q (get_or after (17 * s + q) 0)
      by s q lq (yes z) =
          let e : s ≡ r = omega arith in
          let f : q ≡ p = omega arith in
          rw (e, f) same
      by s q lq (no n) = λ j lj e.
          noted.each s q lq j lj
          (subst (λ (w : ℕ). bit w j ≡ 1) (ap (λ (l : List ℕ). get_or l (17 * s + q) 0) put ∙ get_or-set_other notes (17 * r + p) (17 * s + q) _ 0 n) e)

  pub ready_noted : {table notes after : List ℕ} → Ready rules steps runs i table notes → Noted rules steps runs i after → Ready rules steps runs i table after
  ready_noted ready noted = record { guide = ready.guide; place = ready.place; walkable = ready.walkable; sound = ready.sound; noted = noted }

  -- ---- what is added

  pub ready_added : {table notes after : List ℕ} (r : ℕ) {mask : ℕ} {b : Bool} → Ready rules steps runs i table notes → r < length rules / rule_width
      → Added rules i r mask table after b → ((j : ℕ) → j < 64 → bit mask j ≡ 1 → Runs (Carried (body_of steps) runs) (RuleOf (book_of rules)) i (body_of (words_of rules r)) j)
      → Grown i table after × Ready rules steps runs i after notes
  ready_added r ready count added right =
      let grown = added_grown rules steps runs i ready.walkable ready.place r count ready.guide added in (
        grown,
        record {
          guide = guide_kept ready.guide grown.size;
          place = ready.place;
          walkable = ready.walkable;
          sound = added_sound rules steps runs i ready.walkable ready.place r count ready.guide added right ready.sound;
          noted = ready.noted;
        },
      )

  -- a place settled after gains were followed there
  pub settled_after : {before table after : List ℕ} → Grown i before table → SoundMarks rules steps runs table → Settled rules steps runs i table after → Settled rules steps runs i before after
  settled_after grown sound settled = record { grown = grown_then grown settled.grown; sound = λ s. settled.sound sound; closed = settled.closed }
