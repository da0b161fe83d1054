-- What a rule number that goes with an action gives: a rule of the book or the goal. Accepted bodies are short. Assumes nothing.
use Prim.Native.Nat.{ℕ, ◌/◌, ◌<◌}
use mathlib.Core.Path.{◌≡◌}
use mathlib.Core.Bool.{true}
use mathlib.Core.List.{List}
use lib.ListN.{length}
use Rattle.steps.specs.Run.{Goal}
use Rattle.steps.specs.Words.{head_of}
use Rattle.steps.specs.Widths.{rule_width}
use Rattle.steps.proofs.AcceptanceLaws.{AcceptedWords}
use Rattle.records.specs.Records.{bodies_of, goal_rule}
use Rattle.records.proofs.Numbers.{fits_cases}
use Rattle.records.specs.Bodies.{Short}

module _ (rules goal : List ℕ) where
  module _ (i a : ℕ) (fits : (bodies_of rules goal).fits i a ≡ true) where
    -- any number but 256 is a rule's
    pub fits_rule : (i ≡ goal_rule → ⊥) → (i < length rules / rule_width) × (head_of rules i ≡ a)
    fits_rule ne = fits_cases rules goal i a fits _ (λ z g. absurd (ne z)) (λ n l h. (l, h))

    -- 256 goes with 64
    pub fits_goal : i ≡ goal_rule → a ≡ Goal
    fits_goal e = fits_cases rules goal i a fits _ (λ z g. g) (λ n l h. absurd (n e))

  pub short_of : {fluents actions : ℕ} → AcceptedWords fluents actions rules goal → Short rules goal
  short_of acc = record { short_rules = acc.counts; short_goal = acc.short }
