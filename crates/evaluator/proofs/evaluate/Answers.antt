-- `evaluate` meets its contract, by the outcomes of acceptance, of the list's length, of filling the tables and of the room for ends. Assumes nothing.
use Prim.Native.Nat.{ℕ}
use native.Mathlib.Omega.{arith}
use mathlib.Core.Path.{refl, sym, ap, ◌∙◌}
use lib.ListN.{length, replicate}
use Rattle.refusals.proofs.Numbers.{number-not_zero}
use Rattle.steps.proofs.EachBelow.{true_not_false}
use Rattle.steps.proofs.AcceptanceLaws.{start_accepted}
use Rattle.evaluator.specs.Evaluated.{Asked, Lent, asked, lent, told, CallListShort, not_accepted, list_of_calls_short, outgrown}
use Rattle.records.proofs.Zeros.{all_zero, zero_long}
use Rattle.evaluator.proofs.Outcomes.{is_full, is_short, is_listed}
use Rattle.evaluator.proofs.evaluate.Goals as goal

pub returns-in-Err : goal.returns-in-Err
returns-in-Err c = not_accepted (λ z. number-not_zero _ (c.in-Err.ensures ∙ z)) (c.refused.ensures ∙ ap (λ (n : ℕ). told n 0 0 0 0) c.in-Err.ensures) refl

pub returns-then-list-room_of : goal.returns-then-list-room_of
returns-then-list-room_of c =
    list_of_calls_short (sym c.in_default.ensures) (omega (arith, c.room_of.ensures, c.if-list-room_of.true)) c.refused-then-list-room_of.ensures refl

pub tabulate-requires : goal.tabulate-requires
tabulate-requires c =
    let z = c.clear.ensures in
    let a = c.args in record {
      by_index = (a.fluents, a.actions, (start_accepted a.fluents a.actions a.rules.now a.goal.now a.start (sym c.in_default.ensures)).0);
      calls_value = (
        all_zero (length a.calls.now) z,
        all_zero (length a.list.now) c.clear-2.ensures,
        omega (arith, c.room_of.ensures, c.if-list-room_of.false, zero_long (length a.calls.now) z),
      );
    }

pub returns-in_default-tabulate : goal.returns-in_default-tabulate
returns-in_default-tabulate c =
    let a = c.args in
    let q : Asked = asked a.fluents a.actions a.rules.now a.goal.now a.start in
    let b : Lent = lent a.calls.now a.answers.now a.ends.now a.list.now in
    let (ends, (_, _, _, _, F)) = c.in_default-tabulate.ensures.tabled in
    let calls_long = zero_long (length a.calls.now) c.clear.ensures in
    let list_long = zero_long (length a.list.now) c.clear-2.ensures in
    let calls = c.clear-in_default-tabulate.ensures ∙ ap (λ (n : ℕ). replicate n 0) (F.calls_long ∙ calls_long) in
    let answers = c.clear-in_default-tabulate-2.ensures ∙ ap (λ (n : ℕ). replicate n 0) F.answers_long in
    let list = c.clear-in_default-tabulate-3.ensures ∙ ap (λ (n : ℕ). replicate n 0) (c.in_default-tabulate.ensures.list_long ∙ list_long) in
    let long : ¬ CallListShort b = (λ h. omega (arith, c.room_of.ensures, c.if-list-room_of.false)) in
    outgrown (sym c.in_default.ensures) long
    (is_full q b (sym c.in_default.ensures) long calls_long refl {list = c.tabulate.new.list} (λ z. absurd (true_not_false z)) F (λ z. absurd (true_not_false z)) refl)
    c.refused-in_default-tabulate.ensures
    (λ k. lent (calls k) (answers k) (ends k) (list k))

pub returns-then-ends-run : goal.returns-then-ends-run
returns-then-ends-run c =
    let a = c.args in
    let q : Asked = asked a.fluents a.actions a.rules.now a.goal.now a.start in
    let b : Lent = lent a.calls.now a.answers.now a.ends.now a.list.now in
    let (_, begins, F, listed, finals) = c.in-Some.ensures.tabled in
    let long : ¬ CallListShort b = (λ h. omega (arith, c.room_of.ensures, c.if-list-room_of.false)) in
    rw c.number.ensures
    (is_short q b (sym c.in_default.ensures) long (zero_long (length a.calls.now) c.clear.ensures) refl (λ _. begins) F
    (λ _. rw (zero_long (length a.list.now) c.clear-2.ensures) at listed) refl finals (omega (arith, c.if-ends-run.true)))

pub returns : goal.returns
returns c =
    let a = c.args in
    let q : Asked = asked a.fluents a.actions a.rules.now a.goal.now a.start in
    let b : Lent = lent a.calls.now a.answers.now a.ends.now a.list.now in
    let (_, begins, F, listed, finals) = c.in-Some.ensures.tabled in
    let long : ¬ CallListShort b = (λ h. omega (arith, c.room_of.ensures, c.if-list-room_of.false)) in
    is_listed q b (sym c.in_default.ensures) long (zero_long (length a.calls.now) c.clear.ensures) refl (λ _. begins) F
    (λ _. rw (zero_long (length a.list.now) c.clear-2.ensures) at listed) refl finals (omega (arith, c.if-ends-run.false))
