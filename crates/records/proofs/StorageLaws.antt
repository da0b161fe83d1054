-- Laws of stored records: one record more, and what it makes of the views. Assumes nothing.
use Prim.Native.Nat.{ℕ, ◌+◌, ◌*◌, ◌<◌, ◌≤◌}
use native.Mathlib.Omega.{arith}
use native.Mathlib.Nat.{mul-add}
use mathlib.Core.Path.{◌≡◌, refl, ◌∙◌}
use mathlib.Core.List.{List}
use mathlib.Core.Logic.{inl}
use lib.ListN.{length, get_or}
use Rattle.steps.specs.State.{State}
use Rattle.records.specs.Records.{call_table, answer_table, call_width, answer_width}
use Rattle.records.specs.Storage.{Stored, CallAdded, AnswerAdded, PutCall, PutAnswer}

pub stored_more : {width n : ℕ} {words words' : List ℕ} → Stored width words n → length words' ≡ length words → width * n + width ≤ length words → n < 65536
    → ((i : ℕ) → width * n + width ≤ i → get_or words' i 0 ≡ get_or words i 0) → Stored width words' (n + 1)
stored_more {width} {n} s long fits most past =
    let e : width * (n + 1) ≡ width * n + width = mul-add width n 1 ∙ omega arith in
    record {
      fits = omega arith;
      most = omega arith;
      past = λ i l. past i (omega arith) ∙ s.past i (omega arith);
    }

pub call_one_more : {n a r : ℕ} {D : State} {words words' : List ℕ} → PutCall call_width words n a D r words' → CallAdded (call_table words n) a D r (call_table words' (n + 1))
call_one_more p =
    record {
      count = refl;
      action_kept = λ i l. p.other _ (inl (omega arith));
      state_kept = λ i l. p.other _ (inl (omega arith));
      round_kept = λ i l. p.other _ (inl (omega arith));
      new = record { has_action = p.new.has_action; has_state = p.new.has_state };
      new_round = p.new_round (omega arith);
    }

pub answer_one_more : {m row rule r : ℕ} {f : State} {evidence words words' : List ℕ} → PutAnswer answer_width words m row f rule evidence r words'
    → AnswerAdded (answer_table words m) row f rule evidence r (answer_table words' (m + 1))
answer_one_more p =
    record {
      count = refl;
      call_kept = λ x l. p.other _ (inl (omega arith));
      final_kept = λ x l. p.other _ (inl (omega arith));
      rule_kept = λ x l. p.other _ (inl (omega arith));
      evidence_kept = λ x q l h. p.other _ (inl (omega arith));
      round_kept = λ x l. p.other _ (inl (omega arith));
      new = record { has_call = p.new.has_call; has_final = p.new.has_final };
      new_rule = p.new_rule;
      new_evidence = p.new_evidence;
      new_round = p.new_round (omega arith);
    }
