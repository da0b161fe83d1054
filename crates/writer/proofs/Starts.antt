-- The names that hold in a state, read as `start`, give the state. Assumes nothing.
use Prim.Native.Nat.{ℕ, zero, suc, ◌+◌, ◌*◌, ◌%◌, ◌^◌, ◌<◌}
use native.Mathlib.Omega.{arith}
use native.Mathlib.Nat.{mod-eq_of_lt, mod-lt}
use mathlib.Core.Path.{◌≡◌, refl, ap, ◌∙◌}
use mathlib.Core.Bool.{Bool, true, false, cond}
use mathlib.Core.List.{[], ◌∷◌}
use lib.ListN.{length, get_or, drop, drop_of_length-le}
use lib.Seq.{drop-cons}
use lib.Pow.{mod-pow-add, pow_pos}
use borrow.Author.Tests.{lt-ltb, ne_eqb}
use Rattle.steps.specs.State.{holds, bit}
use Rattle.steps.proofs.StateLaws.{held, not_held, high}
use Rattle.chars.specs.Bytes.{is_name}
use Rattle.chars.specs.Places.{place}
use Rattle.fields.specs.Verdict.{accept}
use Rattle.fields.specs.Book.{Symbols}
use Rattle.fields.specs.Field.{start_name, start_names}
use Rattle.writer.specs.Text.{holding}

-- one bit more of the low bits
low_more : (s k : ℕ) → s % 2 ^ suc k ≡ bit s k * 2 ^ k + s % 2 ^ k
low_more s k = let e : 1 + k ≡ suc k = omega arith in rw e at (mod-pow-add s 1 k)

module _ (y : Symbols)
    (good : (k : ℕ) → k < length y.fluents → is_name (get_or y.fluents k []) ≡ true)
    (apart : (k : ℕ) → k < length y.fluents → place (get_or y.fluents k []) y.fluents ≡ k) where
  -- name k sets bit k over lower bits
  one : (k low : ℕ) → k < length y.fluents → low < 2 ^ k → start_name y low (get_or y.fluents k []) ≡ accept (low + 2 ^ k)
  unfolding start_name
  one k low l h =
      let n : holds low k ≡ false = ne_eqb (bit low k) 1 (λ e. omega (arith, high k k low (omega arith) h)) in
      rw (good k l, apart k l, lt-ltb k (length y.fluents) l, n) refl

  pub start_held : (m k s : ℕ) → k + m ≡ length y.fluents → s < 2 ^ length y.fluents → start_names y (s % 2 ^ k) (holding k s (drop k y.fluents)) ≡ accept s
  unfolding start_names holding
  start_held zero k s e l =
      let z : k ≡ length y.fluents = omega arith in
      rw (drop_of_length-le y.fluents {i = k} (omega arith), z, mod-eq_of_lt l) refl
  start_held (suc m) k s e l = rw (drop-cons y.fluents k [] (omega arith)) (by (holds s k) refl (start_held m (suc k) s (omega arith) l))
    where
      by : (b : Bool) → holds s k ≡ b → start_names y (s % 2 ^ suc k) (holding (suc k) s (drop (suc k) y.fluents)) ≡ accept s
          → start_names y (s % 2 ^ k) (cond b (get_or y.fluents k [] ∷ holding (suc k) s (drop (suc k) y.fluents)) (holding (suc k) s (drop (suc k) y.fluents))) ≡ accept s
      by true h rest =
          let q : s % 2 ^ suc k ≡ s % 2 ^ k + 2 ^ k = omega (arith, low_more s k ∙ ap (λ (n : ℕ). n * 2 ^ k + s % 2 ^ k) (held s k h)) in
          rw (one k (s % 2 ^ k) (omega arith) (mod-lt s (pow_pos k))) (rw q at rest)
      by false h rest =
          let q : s % 2 ^ suc k ≡ s % 2 ^ k = omega (arith, low_more s k ∙ ap (λ (n : ℕ). n * 2 ^ k + s % 2 ^ k) (not_held s k h)) in
          rw q at rest
