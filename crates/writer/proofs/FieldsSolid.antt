-- The fields that a book's text has are names, or marks before names. Assumes nothing.
use Prim.Native.Nat.{ℕ, zero, suc, ◌/◌, ◌%◌, ◌<◌}
use native.Mathlib.Omega.{arith}
use mathlib.Core.Path.{◌≡◌}
use mathlib.Core.Bool.{Bool, true, false, cond}
use mathlib.Core.List.{List, [], ◌∷◌, map}
use lib.ListN.{length, get_or}
use lib.Dec.{ltb, eqb}
use borrow.Author.Tests.{ltb-true}
use Rattle.steps.specs.Acceptance.{good_step}
use Rattle.steps.specs.State.{holds}
use Rattle.steps.proofs.EachBelow.{both}
use Rattle.chars.specs.Bytes.{is_name}
use Rattle.fields.specs.Book.{Symbols}
use Rattle.fields.specs.Field.{marks, names_of}
use Rattle.writer.specs.Text.{step_text, holding}
use Rattle.writer.proofs.Solid.{solid, Solid, AllSolid, none_solid, more_solid, name_solid}
use Rattle.writer.proofs.StepsBack.{Named, names_count}

pub named_solid : (names : List (List ℕ)) → Named names → AllSolid names
named_solid [] n = none_solid
named_solid (x ∷ xs) n = more_solid (name_solid x (n.good 0 (omega arith))) (go xs (λ k l. n.good (suc k) (omega arith)))
  where
    go : (xs : List (List ℕ)) → ((k : ℕ) → k < length xs → is_name (get_or xs k []) ≡ true) → AllSolid xs
    go [] h = none_solid
    go (x ∷ xs) h = more_solid (name_solid x (h 0 (omega arith))) (go xs (λ k l. h (suc k) (omega arith)))

pub held_solid : (k s : ℕ) (names : List (List ℕ)) → AllSolid names → AllSolid (holding k s names)
unfolding holding
held_solid k s [] none_solid = none_solid
held_solid k s (x ∷ xs) (more_solid h t) = by (holds s k) (held_solid (suc k) s xs t)
  where
    by : (b : Bool) → AllSolid (holding (suc k) s xs) → AllSolid (cond b (x ∷ holding (suc k) s xs) (holding (suc k) s xs))
    by true r = more_solid h r
    by false r = r

module _ (y : Symbols) (fluents : Named y.fluents) (actions : Named y.actions) where
  kind_solid : (kind index : ℕ) → kind < 5 → index < length (names_of y kind) → Solid (get_or marks kind 0 ∷ get_or (names_of y kind) index [])
  unfolding solid
  kind_solid zero index k l = name_solid _ (fluents.good index l)
  kind_solid (suc zero) index k l = name_solid _ (fluents.good index l)
  kind_solid (suc (suc zero)) index k l = name_solid _ (fluents.good index l)
  kind_solid (suc (suc (suc zero))) index k l = name_solid _ (actions.good index l)
  kind_solid (suc (suc (suc (suc zero)))) index k l = name_solid _ (fluents.good index l)
  kind_solid (suc (suc (suc (suc (suc n))))) index k l = absurd (omega arith)

  pub step_solid : (w : ℕ) → good_step (length y.fluents) (length y.actions) w ≡ true → Solid (step_text y w)
  unfolding good_step
  step_solid w g =
      let (k, i) = both (ltb (w / 256) 5) (ltb (w % 256) (cond (eqb (w / 256) 3) (length y.actions) (length y.fluents))) g in
      kind_solid (w / 256) (w % 256) (ltb-true (w / 256) 5 k) (rw (names_count y fluents actions (w / 256)) at (ltb-true (w % 256) _ i))

  pub steps_solid : (ws : List ℕ) → ((i : ℕ) → i < length ws → good_step (length y.fluents) (length y.actions) (get_or ws i 0) ≡ true) → AllSolid (map (step_text y) ws)
  steps_solid [] h = none_solid
  steps_solid (w ∷ ws) h = more_solid (step_solid w (h 0 (omega arith))) (steps_solid ws (λ i l. h (suc i) (omega arith)))
