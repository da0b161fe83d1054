-- A written step reads to its word. Assumes nothing.
use Prim.Native.Nat.{ℕ, zero, suc, ◌+◌, ◌*◌, ◌/◌, ◌%◌, ◌<◌}
use native.Mathlib.Omega.{arith}
use mathlib.Core.Path.{◌≡◌, refl, ap, ◌∙◌}
use mathlib.Core.Bool.{Bool, true, false, cond}
use mathlib.Core.List.{List, [], ◌∷◌}
use lib.ListN.{length, get_or}
use lib.Dec.{ltb, eqb}
use borrow.Author.Tests.{lt-ltb, ltb-true}
use Rattle.steps.specs.Acceptance.{good_step}
use Rattle.steps.proofs.EachBelow.{both}
use Rattle.chars.specs.Bytes.{is_name}
use Rattle.chars.specs.Places.{place, byte_at}
use Rattle.fields.specs.Verdict.{accept}
use Rattle.fields.specs.Book.{Symbols}
use Rattle.fields.specs.Field.{marks, names_of, used_name, step_word}
use Rattle.writer.specs.Text.{step_text}

-- names that are names, none twice
pub record Named (names : List (List ℕ)) : Type 0 where
  pub good : (k : ℕ) → k < length names → is_name (get_or names k []) ≡ true
  pub apart : (k : ℕ) → k < length names → place (get_or names k []) names ≡ k

pub used_back : (names : List (List ℕ)) → Named names → (k : ℕ) → k < length names → used_name names (get_or names k []) ≡ accept k
unfolding used_name
used_back names n k l = rw (n.good k l, n.apart k l, lt-ltb k (length names) l) refl

module _ (y : Symbols) (fluents : Named y.fluents) (actions : Named y.actions) where
  kind_back : (kind index : ℕ) → kind < 5 → index < length (names_of y kind) → step_word y (get_or marks kind 0 ∷ get_or (names_of y kind) index []) ≡ accept (256 * kind + index)
  unfolding step_word byte_at
  kind_back zero index k l = rw (used_back y.fluents fluents index l) refl
  kind_back (suc zero) index k l = rw (used_back y.fluents fluents index l) refl
  kind_back (suc (suc zero)) index k l = rw (used_back y.fluents fluents index l) refl
  kind_back (suc (suc (suc zero))) index k l = rw (used_back y.actions actions index l) refl
  kind_back (suc (suc (suc (suc zero)))) index k l = rw (used_back y.fluents fluents index l) refl
  kind_back (suc (suc (suc (suc (suc n))))) index k l = absurd (omega arith)

  pub names_count : (kind : ℕ) → cond (eqb kind 3) (length y.actions) (length y.fluents) ≡ length (names_of y kind)
  names_count kind = by (eqb kind 3)
    where
      by : (t : Bool) → cond t (length y.actions) (length y.fluents) ≡ length (cond t y.actions y.fluents)
      by true = refl
      by false = refl

  pub step_back : (w : ℕ) → good_step (length y.fluents) (length y.actions) w ≡ true → step_word y (step_text y w) ≡ accept w
  unfolding good_step
  step_back w g =
      let (k, i) = both (ltb (w / 256) 5) (ltb (w % 256) (cond (eqb (w / 256) 3) (length y.actions) (length y.fluents))) g in
      let e : 256 * (w / 256) + w % 256 ≡ w = omega arith in
      kind_back (w / 256) (w % 256) (ltb-true (w / 256) 5 k) (rw (names_count (w / 256)) at (ltb-true (w % 256) _ i)) ∙ ap (λ (n : ℕ). accept n) e
