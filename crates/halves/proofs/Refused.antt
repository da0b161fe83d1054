-- A half of an accepted goal is accepted, the second from every end of the first: only room can be wanting. Assumes nothing.
use Prim.Native.Nat.{ℕ, ◌+◌, ◌/◌, ◌^◌, ◌<◌, ◌≤◌}
use native.Mathlib.Omega.{arith}
use native.Mathlib.Nat.{div-eq_of_lt}
use mathlib.Core.Path.{◌≡◌, refl, ap}
use mathlib.Core.Bool.{Bool, true, false, cond}
use mathlib.Core.List.{List, []}
use mathlib.Core.Logic.{inl, inr}
use lib.ListN.{length, get_or, take, drop, length-take, length-drop}
use lib.Seq.{get_or-take, get_or-drop}
use lib.Dec.{eqb}
use borrow.Author.Tests.{eqb-true, eq-eqb, le-ltb}
use Rattle.refusals.specs.Run.{run_refusals}
use Rattle.steps.specs.State.{State}
use Rattle.steps.specs.Run.{End}
use Rattle.steps.specs.Acceptance.{good_step, bad_counts, bad_length, bad_rules, bad_goal, bad_state, words_refusal, refusal_of}
use Rattle.steps.proofs.EachBelow.{each_all}
use Rattle.steps.proofs.AcceptanceLaws.{AcceptedWords, accepted, words_accepted, start_accepted, accepted_below}
use Rattle.evaluator.specs.Evaluated.{Asked, Told, refused_with, run_asked, not_accepted, list_of_calls_short, outgrown, short_list, ends_listed}
use Rattle.halves.specs.Cut.{first_half, second_half, HalvesAccepted, OnlyRoom, HalvesRefused}

module _ (fluents actions : ℕ) (rules : List ℕ) where
  -- none of 20 to 23 with one goal, and another that is good: none with the other
  other_goal : (goal part : List ℕ) → words_refusal fluents actions rules goal ≡ 0 → bad_goal fluents actions part ≡ false → words_refusal fluents actions rules part ≡ 0
  unfolding words_refusal
  other_goal goal part e good = rw good (by (bad_counts fluents actions) (bad_length rules) (bad_rules fluents actions rules) (bad_goal fluents actions goal) e)
    where
      by : (c l r g : Bool) → ◌≡◌ {A = ℕ} (cond c run_refusals.bad_counts (cond l run_refusals.bad_length (cond r run_refusals.bad_rule (cond g run_refusals.bad_goal 0)))) 0 → ◌≡◌ {A = ℕ} (cond c run_refusals.bad_counts (cond l run_refusals.bad_length (cond r run_refusals.bad_rule 0))) 0
      by true l r g e = e
      by false true r g e = e
      by false false true g e = e
      by false false false g e = refl

  -- none of 20 to 23, and a start below 2 ^ fluents: none of 20 to 24
  with_start : (goal : List ℕ) (start : State) → words_refusal fluents actions rules goal ≡ 0 → start < 2 ^ fluents → refusal_of fluents actions rules goal start ≡ 0
  unfolding refusal_of bad_state
  with_start goal start e l = rw (e, eq-eqb (start / 2 ^ fluents) 0 (div-eq_of_lt l)) refl

  -- a goal of good steps, not too long
  few_good : (part : List ℕ) → length part ≤ 16 → ((i : ℕ) → i < length part → good_step fluents actions (get_or part i 0) ≡ true) → bad_goal fluents actions part ≡ false
  unfolding bad_goal
  few_good part few good = rw (le-ltb 16 (length part) few, each_all _ (length part) good) refl

  -- the first k steps of an accepted goal, and the steps after them
  module _ (goal : List ℕ) (k : ℕ) (acc : AcceptedWords fluents actions rules goal) where
    first_good : bad_goal fluents actions (take k goal) ≡ false
    first_good = few_good (take k goal) (omega (arith, length-take k goal, acc.short)) (λ i l.
        let n = length-take k goal in
        rw (get_or-take k goal i 0 (omega arith)) (acc.goal_steps i (omega arith)))

    second_good : bad_goal fluents actions (drop k goal) ≡ false
    second_good = few_good (drop k goal) (omega (arith, length-drop k goal, acc.short)) (λ i l.
        let n = length-drop k goal in
        rw (get_or-drop k goal i 0) (acc.goal_steps (k + i) (omega arith)))

module _ (q : Asked) (k : ℕ) (e : refused_with q ≡ 0) where
  words : words_refusal q.fluents q.actions q.rules q.goal ≡ 0
  words = words_accepted q.fluents q.actions q.rules q.goal q.start e

  -- a part of the goal that is good is accepted from every start below 2 ^ fluents
  part_accepted : (part : List ℕ) (D : State) → bad_goal q.fluents q.actions part ≡ false → D < 2 ^ q.fluents
      → refusal_of q.fluents q.actions q.rules part D ≡ 0
  part_accepted part D good below =
      with_start q.fluents q.actions q.rules part D (other_goal q.fluents q.actions q.rules q.goal part words good) below

  good : AcceptedWords q.fluents q.actions q.rules q.goal
  good = accepted q.fluents q.actions q.rules q.goal words

  first : refused_with (first_half q k) ≡ 0
  first =
      part_accepted (first_half q k).goal q.start (first_good q.fluents q.actions q.rules q.goal k good)
      (start_accepted q.fluents q.actions q.rules q.goal q.start e).1

  -- every end of the first half has only bits of the fluents
  end_below : (D : State) → End (run_asked (first_half q k)) D → D < 2 ^ q.fluents
  end_below D d = accepted_below q.fluents q.actions q.rules (first_half q k).goal q.start first D [] d

  second : (D : State) → End (run_asked (first_half q k)) D → refused_with (second_half q k D) ≡ 0
  second D d = part_accepted (second_half q k D).goal D (second_good q.fluents q.actions q.rules q.goal k good) (end_below D d)

pub halves_accepted : HalvesAccepted
halves_accepted q k e = (first q k e, second q k e)

-- Words, goal and start that are accepted are refused with nothing but 30, 31 or 34.
only_room : (q : Asked) → refused_with q ≡ 0 → OnlyRoom q
only_room q ok before after r (not_accepted n z s) = absurd (n ok)
only_room q ok before after r (list_of_calls_short a h z s) = inr (inr (inr (ap (λ (r : Told). r.refusal) z)))
only_room q ok before after r (outgrown a h f z s) = inr (inl (ap (λ (r : Told). r.refusal) z))
only_room q ok before after r (short_list z t l s) = inr (inr (inl z))
only_room q ok before after r (ends_listed z t l up s) = inl z

pub halves_refused : HalvesRefused
halves_refused q k e =
    let (first, second) = halves_accepted q k e in
    (only_room (first_half q k) first, λ D end. only_room (second_half q k D) (second D end))
