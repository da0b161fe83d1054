-- What a search among parts has found. Assumes nothing.
use Prim.Native.Nat.{ℕ, ◌+◌, ◌<◌}
use mathlib.Core.Path.{◌≡◌, sym, ap, ◌∙◌}
use mathlib.Core.Bool.{true, false}
use mathlib.Core.List.{List}
use lib.ListN.{length}
use Rattle.std.specs.Prelude.{Option, None, Some}
use Rattle.std.specs.Option.{is_some, unwrap_or}
use Rattle.steps.proofs.EachBelow.{true_not_false}
use Rattle.chars.specs.Places.{place}
use Rattle.parts.specs.Parts.{Found}

module _ (y : List ℕ) (xs : List (List ℕ)) (lo : ℕ) where
  pub found_there : (r : Option ℕ) → Found y xs lo r → is_some r ≡ true → place y xs < length xs
  found_there None f e = absurd (true_not_false (sym e))
  found_there (Some k) f e = f.1

  pub found_not : (r : Option ℕ) → Found y xs lo r → is_some r ≡ false → place y xs ≡ length xs
  found_not None f e = f
  found_not (Some k) f e = absurd (true_not_false e)

  -- the number past the last one for none
  pub found_or_past : (r : Option ℕ) (hi : ℕ) → Found y xs lo r → hi ≡ lo + length xs → unwrap_or r hi ≡ lo + place y xs
  found_or_past None hi f e = e ∙ ap (λ (n : ℕ). lo + n) (sym f)
  found_or_past (Some k) hi f e = f.0
