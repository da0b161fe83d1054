-- Tables that hold the same records, whatever stands past them: what is closed stays closed, and the rounds that led there are the same.
-- Assumes nothing.
use Prim.Native.Nat.{ℕ, suc, ◌<◌, ◌≤◌}
use native.Mathlib.Omega.{arith}
use mathlib.Core.Path.{◌≡◌, refl, sym, subst, ◌∙◌}
use Rattle.steps.specs.State.{State}
use Rattle.sorting.specs.Permuted.{Permuted}
use Rattle.records.specs.Records.{Bodies}
use Rattle.records.proofs.Growth.{Tables, grew_refl}
use Rattle.records.proofs.Justification.{Proper}
use Rattle.tabling.proofs.Evidence.{Valid, inside_of}
use Rattle.tabling.proofs.Closed.{ClosedAt, Whole}
use Rattle.tabling.proofs.Found.{Rounded, RoundsOver, made_start, size}
use Rattle.tabling.proofs.Resorted.{SameCall, SameAnswer, Resorted, made_now, closed_now, valid_now, calls_once_now, answers_once_now}

-- v holds the records of u.
pub record Rewritten (u v : Tables) : Type 0 where
  pub calls_count : v.calls.count ≡ u.calls.count
  pub answers_count : v.answers.count ≡ u.answers.count
  pub calls : (i : ℕ) → i < u.calls.count → SameCall u v i i
  pub answers : (x : ℕ) → x < u.answers.count → SameAnswer u v x x

-- numbers in the order that they have
abbrev as_they_are : (lo n : ℕ) → Permuted lo n
as_they_are lo n = record { from = λ i. i; back = λ i. i; from_in = λ i h l. (h, l); back_in = λ i h l. (h, l); from_back = λ i h l. refl; back_from = λ i h l. refl }

module _ {u v : Tables} (R : Rewritten u v) where
  resorted : {b : Tables} → b.calls.count ≤ u.calls.count → b.answers.count ≤ u.answers.count → Resorted b u v
  resorted {b} h k = record {
    calls_count = R.calls_count;
    answers_count = R.answers_count;
    of_calls = as_they_are b.calls.count u.calls.count;
    of_answers = as_they_are b.answers.count u.answers.count;
    call_stays = λ i l. R.calls i (omega arith);
    answer_stays = λ x l. R.answers x (omega arith);
    call_moved = λ i l m. R.calls i m;
    answer_moved = λ x l m. R.answers x m;
  }

  module _ {bodies : Bodies} {Root : ℕ → State → Type 0} (proper : Proper bodies) where
    pub valid_same : Valid bodies Root u → Valid bodies Root v
    valid_same U = valid_now (resorted {b = u} (omega arith) (omega arith)) proper U U (made_start {r = 0} u)

    pub whole_same : {first : ℕ} → Whole bodies Root first u → Whole bodies Root first v
    whole_same W = record {
      valid = valid_same W.valid;
      closed = λ r f l i e.
          (let k : r < u.calls.count = omega (arith, R.calls_count) in
          let z : v.calls.action r ≡ u.calls.action r = (R.calls r k).action in
          subst (λ (a : ℕ). ClosedAt (bodies.words i a) v v.answers.count r) (sym z) (subst (λ (m : ℕ). ClosedAt (bodies.words i (u.calls.action r)) v m r) (sym R.answers_count)
          (closed_now (resorted {b = u} (omega arith) (omega arith)) (omega arith) (omega arith) (grew_refl u) (inside_of W.valid) (bodies.words i (u.calls.action r)) r k
          (W.closed r f k i (rw z at e)))));
    }

    pub rounds_over_same : {b₀ : Tables} {r : ℕ} → Valid bodies Root u → RoundsOver bodies b₀ r u → RoundsOver bodies b₀ r v
    rounds_over_same {b₀} {r} U O = record { last = O.last; rounds = O.rounds; still = still; same = O.same ∙ sizes }
      where
        b : Tables
        b = O.last

        S : Rounded bodies (suc r) b u
        S = O.still

        h : b.calls.count ≤ u.calls.count
        h = S.gathered.made.grew.calls_more

        k : b.answers.count ≤ u.answers.count
        k = S.gathered.made.grew.answers_more

        T : Resorted b u v
        T = resorted h k

        sizes : size u ≡ size v
        sizes = omega (arith, R.calls_count, R.answers_count)

        still : Rounded bodies (suc r) b v
        still = record {
          inside = S.inside;
          short = S.short;
          calls_once = calls_once_now T h k S.calls_once;
          answers_once = answers_once_now T h k S.answers_once;
          gathered = record {
            made = made_now T h k proper
                (λ x y p l q. (let i : y < u.answers.count = omega (arith, R.answers_count) in omega (arith, (R.answers x (omega arith)).call, (R.answers y i).call, S.gathered.made.by_row x y p l i)))
                S.gathered.made;
            closed = λ row i l e. closed_now T h k S.gathered.made.grew S.inside (bodies.words i (b.calls.action row)) row l (S.gathered.closed row i l e);
          };
          calls_rise = λ i j p l q.
              (let w : j < u.calls.count = omega (arith, R.calls_count) in
              let x = R.calls i (omega arith) in
              let y = R.calls j w in
              rw (x.action, x.state, y.action, y.state) (S.calls_rise i j p l w));
          answers_rise = λ i j p l q.
              (let w : j < u.answers.count = omega (arith, R.answers_count) in
              let x = R.answers i (omega arith) in
              let y = R.answers j w in
              rw (x.call, x.final, y.call, y.final) (S.answers_rise i j p l w));
        }
