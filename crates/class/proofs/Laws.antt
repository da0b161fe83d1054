-- Laws of a class run: what an unrefused one shows, and what determines its result words and its list. Assumes nothing.
use Prim.Native.Nat.{ℕ, ◌*◌}
use native.Mathlib.Omega.{arith}
use native.Mathlib.Nat.{div-eq_of_lt}
use mathlib.Core.Path.{◌≡◌, sym, ap, ◌∙◌}
use mathlib.Core.Bool.{false}
use mathlib.Core.List.{List, [], ◌++◌, Memᴰ}
use lib.ListN.{length, take, drop}
use borrow.Author.Tests.{eq-eqb}
use Rattle.steps.specs.State.{State}
use Rattle.steps.specs.Acceptance.{bad_state}
use Rattle.steps.proofs.AcceptanceLaws.{accepted_below}
use Rattle.steps.proofs.EachBelow.{true_not_false}
use Rattle.evaluator.specs.Evaluated.{Asked, Lent, Told, asked}
use Rattle.class.specs.Class.{four, result_words, Turns, Ran, refused, ran}
use Rattle.class.specs.Shown.{ClassShown, ClassDetermined}
use Rattle.class.proofs.Turns.{turns_many, room_kept}
use Rattle.class.proofs.Single.{turns_unique, start_single, words_of_start}
use Rattle.class.proofs.Ends.{ends_written, ends_most, ends_of_starts, same_list}
use Rattle.class.proofs.Tables.{tables_left, tables_same}

module _ (ask : State → Asked) {starts : List State} {results : List ℕ} where
  shown : {before after : Lent} {rs : List Told} {results' : List ℕ} → Turns ask starts before after rs → results' ≡ result_words rs ++ drop (4 * length starts) results
      → ClassShown ask starts results before results' after
  shown {before} {rs = rs} T w =
      let W = ends_written ask T in
      record {
        given = rs;
        words = w;
        single = λ i l s E.
            ap (λ (ws : List ℕ). take 4 (drop (4 * i) ws)) w ∙ words_of_start rs (drop (4 * length starts) results) i (omega (arith, turns_many T)) ∙ ap four (start_single i l T s E);
        ends = W.ends;
        in_turn = W.in_turn;
        ends_many = W.many;
        most = ends_most T;
        of_starts = ends_of_starts T W.in_turn;
        ends_list = W.list ∙ ap (λ (n : ℕ). W.ends ++ drop n before.ends) (sym W.many);
        tables = tables_left ask T;
        room = room_kept T;
      }

  pub class_shown : {before after : Lent} {results' : List ℕ} {r : ℕ} → Ran ask starts results before results' after r → r ≡ 0 → ClassShown ask starts results before results' after
  class_shown (refused b e w s) z = absurd (omega arith)
  class_shown (ran b e T w) z = shown T w

pub class_determined : ClassDetermined
class_determined ask starts results results₁ results₂ b₁ b₂ a₁ a₂ r₁ r₂ s f (refused b e w t) (refused b' e' w' t') = (e ∙ sym e', w ∙ sym w', ap (λ (l : Lent). l.ends) t ∙ f ∙ sym (ap (λ (l : Lent). l.ends) t'), λ start m ok z n. absurd (omega (arith, e, z)))
class_determined ask starts results results₁ results₂ b₁ b₂ a₁ a₂ r₁ r₂ s f (refused b e w t) (ran b' e' T' w') = absurd (true_not_false (sym b ∙ b'))
class_determined ask starts results results₁ results₂ b₁ b₂ a₁ a₂ r₁ r₂ s f (ran b e T w) (refused b' e' w' t') = absurd (true_not_false (sym b' ∙ b))
class_determined ask starts results results₁ results₂ b₁ b₂ a₁ a₂ r₁ r₂ s f (ran b e T w) (ran b' e' T' w') =
    let u = turns_unique s T T' in
    (e ∙ sym e', w ∙ ap (λ (rs : List Told). result_words rs ++ drop (4 * length starts) results) u ∙ sym w', same_list ask u f (ends_written ask T) (ends_written ask T'), λ start m ok z n. tables_same ask s n T T' (start, m, ok))

-- No end written has a bit at or above the fluent count.
pub class_below : {fluents actions : ℕ} {rules goal : List ℕ} {starts : List State} {results results' : List ℕ} {before after : Lent}
    (S : ClassShown (asked fluents actions rules goal) starts results before results' after) (D : State) → Memᴰ D S.ends → bad_state fluents D ≡ false
unfolding bad_state
class_below {fluents} {actions} {rules} {goal} S D m =
    let (start, among, ok, d) = S.of_starts D m in
    rw (eq-eqb _ _ (div-eq_of_lt (accepted_below fluents actions rules goal start ok D [] d)))
