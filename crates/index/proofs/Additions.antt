-- Laws of one record more, of either table: it is put, it is noted, and all else stays. Assumes nothing.
use Prim.Native.Nat.{ℕ, ◌+◌, ◌*◌, ◌/◌, ◌%◌, ◌<◌, ◌≤◌}
use native.Mathlib.Omega.{arith}
use mathlib.Core.Path.{◌≡◌, refl, ap, ◌∙◌}
use mathlib.Core.Bool.{false}
use mathlib.Core.List.{List}
use mathlib.Core.Logic.{inr}
use lib.ListN.{length, get_or}
use Rattle.steps.specs.State.{State}
use Rattle.quarters.specs.Quarters.{quarter}
use Rattle.records.specs.Records.{room, call_width}
use Rattle.records.specs.Storage.{NoAnswer, AnswerAdded, AnswerPut, answer_added}
use Rattle.desk.specs.Desk.{packed_width, packed_answers, round_top, call_put, packed_record, Written, CallsOpen, AnswersOpen}
use Rattle.desk.proofs.CallLaws.{put_long, put_stored, put_added}
use Rattle.desk.proofs.AnswerLaws as answer-laws
use Rattle.index.specs.Index.{bucket, CallIndex, AnswerIndex, Noted, CallsKept, AnswerNoted}
use Rattle.index.proofs.IndexLaws.{call_index_more}

-- ---- calls
pub calls_kept : (calls list : List ℕ) → CallsKept calls list calls list
calls_kept calls list = record { long = refl; list_long = refl; marks = λ k. refl; uses = λ k. refl; notes = λ k j l. refl }

module _ {calls list calls' : List ℕ} {n a r most : ℕ} (D : State) (o : CallsOpen calls list n) (la : a < 256) (lr : r < round_top)
    (few : n < most) (e : most ≡ room call_width (length calls)) (z : calls' ≡ call_put calls n a D r) where
  fits : call_width * n + 3 ≤ length calls
  fits = omega arith

  module _ {k : ℕ} {list' : List ℕ} (noted : Noted list 0 k n list') where
    pub call_more_open : CallsOpen calls' list' (n + 1)
    call_more_open =
        let l = put_long calls n a D r in
        let t = noted.rechained.long in
        rw z (record { stored = put_stored calls n a D r fits o.stored (omega arith); listed = rw l (omega (arith, t, o.listed)) })

    pub call_more_index : CallIndex calls list n → k ≡ bucket most a D → CallIndex calls' list' (n + 1)
    call_more_index c b = rw z (call_index_more c (put_long calls n a D r) (put_added calls n a D r fits la lr) (omega arith)
        (b ∙ ap (λ (q : ℕ). bucket q a D) e) noted)

-- ---- answers
module _ {calls answers calls' answers₁ answers' : List ℕ} {most m row : ℕ} {D : State} (rule r : ℕ) (evidence : List ℕ)
    (n : AnswerNoted most calls answers m row D calls' answers₁) (few : AnswersOpen most answers (m + 1))
    (z : Written answers₁ (packed_width * m) (packed_record row D rule evidence r) answers') where
  answer_more_long : length answers' ≡ length answers
  answer_more_long = z.long ∙ n.kept.answers_long

  module _ (small : (q : ℕ) → q < 16 → get_or evidence q 0 < 65536) where
    added : AnswerAdded (packed_answers answers m) row D rule evidence r (packed_answers answers' (m + 1))
    added =
        let p = answer-laws.put_added m row D rule evidence r z small in
        record {
          count = refl;
          call_kept = λ x l. p.call_kept x l ∙ n.below (packed_width * x) (omega (arith, few.fits));
          final_kept = λ x l. p.final_kept x l ∙ n.below (packed_width * x + 1) (omega (arith, few.fits));
          rule_kept = λ x l. p.rule_kept x l ∙ n.below (packed_width * x + 2) (omega (arith, few.fits));
          evidence_kept = λ x q l h. p.evidence_kept x q l h ∙ ap (λ (w : ℕ). quarter w (q % 4)) (n.below (packed_width * x + 4 + q / 4) (omega (arith, few.fits)));
          round_kept = λ x l. p.round_kept x l ∙ n.below (packed_width * x + 3) (omega (arith, few.fits));
          new = p.new;
          new_rule = p.new_rule;
          new_evidence = p.new_evidence;
          new_round = p.new_round;
        }

    pub answer_more_put : NoAnswer (packed_answers answers m) row D
        → AnswerPut most (packed_answers answers m) row D rule evidence r (packed_answers answers' (m + 1)) false
    answer_more_put none = answer_added refl (omega (arith, few.fits)) none added

    pub answer_more_index : AnswerIndex most calls' answers' (m + 1)
    answer_more_index = n.index answers' answer_more_long (λ x l. (added.call_kept x l, added.final_kept x l)) added.new.has_call added.new.has_final
        (λ p l. z.other p (inr (omega (arith, few.fits))))

  pub answer_more_open : AnswersOpen most answers' (m + 1)
  answer_more_open = record { fits = few.fits; small = few.small; long = rw answer_more_long few.long }
