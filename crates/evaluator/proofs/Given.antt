-- Tables on the way to being given. Assumes nothing.
use Prim.Native.Nat.{ℕ, ◌*◌, ◌%◌, ◌≤◌}
use native.Mathlib.Omega.{arith}
use mathlib.Core.Path.{sym, ap, ◌∙◌}
use mathlib.Core.List.{List}
use Rattle.quarters.specs.Quarters.{quarter}
use Rattle.records.specs.Records.{call_table}
use Rattle.records.proofs.Growth.{CallsOnce}
use Rattle.desk.specs.Desk.{open_calls, packed_width, CallsClosed, AnswersClosed}
use Rattle.radix.specs.Lines.{Below}

-- Calls that are given stand once where they did.
pub calls_once_given : {words words' : List ℕ} {n : ℕ} → CallsClosed words n words' → CallsOnce (open_calls words n) → CallsOnce (call_table words' n)
calls_once_given c once i j a D k l x y =
    once i j a D k l (record { has_action = sym (c.actions i (omega arith)) ∙ x.has_action; has_state = sym (c.states i (omega arith)) ∙ x.has_state })
    (record { has_action = sym (c.actions j l) ∙ y.has_action; has_state = sym (c.states j l) ∙ y.has_state })

-- Answers are given from words whose free part was written over.
pub closed_below : {words between words' : List ℕ} {m at : ℕ} → packed_width * m ≤ at → Below at words between → AnswersClosed between m words' → AnswersClosed words m words'
closed_below room B a = record {
  long = a.long ∙ B.long;
  closed = λ x l. (let z = a.closed x l in record {
    call = z.call ∙ B.stays _ (omega arith);
    final = z.final ∙ B.stays _ (omega arith);
    rule = z.rule ∙ B.stays _ (omega arith);
    evidence = λ q h. z.evidence q h ∙ ap (λ (w : ℕ). quarter w (q % 4)) (B.stays _ (omega arith));
    round = z.round ∙ B.stays _ (omega arith);
  });
  stored = a.stored;
}
