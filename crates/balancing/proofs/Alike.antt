-- Tables whose records stand for the same rows. Assumes nothing.
use Prim.Native.Nat.{ℕ, ◌<◌}
use native.Mathlib.Omega.{arith}
use mathlib.Core.Path.{◌≡◌, refl, sym, subst}
use mathlib.Core.Bool.{Bool}
use Rattle.steps.specs.State.{State}
use Rattle.records.proofs.Growth.{Tables}
use Rattle.matching.specs.Flags.{Whether, RowForRow}
use Rattle.matching.specs.Matching.{call_row, answer_row, SameRows}
use Rattle.matching.proofs.Pairs.{whether_same, rows_same}

-- They have as many records, and each record stands for the same.
pub record Alike (t t' : Tables) : Type 0 where
  pub calls_many : t.calls.count ≡ t'.calls.count
  pub answers_many : t.answers.count ≡ t'.answers.count
  pub calls : (i : ℕ) → i < t.calls.count → call_row t.calls i ≡ call_row t'.calls i
  pub answers : (x : ℕ) → x < t.answers.count → answer_row t.calls t.answers x ≡ answer_row t'.calls t'.answers x

alike_back : {t t' : Tables} → Alike t t' → Alike t' t
alike_back a = record {
  calls_many = sym a.calls_many;
  answers_many = sym a.answers_many;
  calls = λ i l. sym (a.calls i (omega (arith, a.calls_many)));
  answers = λ x l. sym (a.answers x (omega (arith, a.answers_many)));
}

same_for : {t t' e : Tables} → Alike t t' → SameRows t e → SameRows t' e
same_for {t} {t'} {e} a s = record {
  calls = subst (λ (k : ℕ). RowForRow (call_row t'.calls) k (call_row e.calls) e.calls.count) a.calls_many
      (rows_same a.calls (λ j l. refl) s.calls);
  answers = subst (λ (k : ℕ). RowForRow (answer_row t'.calls t'.answers) k (answer_row e.calls e.answers) e.answers.count) a.answers_many
      (rows_same a.answers (λ j l. refl) s.answers);
}

-- What is told of the one is so of the other.
pub tells_alike : {t t' : Tables} (e : Tables) (b : Bool) → Alike t t' → Whether (SameRows t e) b → Whether (SameRows t' e) b
tells_alike e b a = whether_same b (same_for a) (same_for (alike_back a))

pub row_of_three : {a b : ℕ} {D F f g : State} → a ≡ b → D ≡ F → f ≡ g → ◌≡◌ {A = ℕ × State × State} (a, D, f) (b, F, g)
row_of_three e d h = λ i. (e i, d i, h i)
