-- Rules and a goal whose bodies are short; the bodies where two parties have a goal each. Assumes nothing.
use Rattle.std.specs.Prelude.{ℕ, ◌/◌, ◌<◌, ◌≤◌, List, Bool, cond, ◌&&◌, ◌||◌, length, eqb, ltb}
use Rattle.steps.specs.Run.{Goal}
use Rattle.steps.specs.Words.{count_of, head_of, words_of}
use Rattle.steps.specs.Widths.{rule_width}
use Rattle.records.specs.Records.{Bodies, goal_rule}

-- No body has over 16 steps.
pub record Short (rules goal : List ℕ) : Type 0 where
  pub short_rules : (r : ℕ) → r < length rules / rule_width → count_of rules r ≤ 16
  pub short_goal : length goal ≤ 16

-- The number of the k-th rule where there are `count`, the goal behind them.
unfoldable pub number_at : ℕ → ℕ → ℕ
number_at count k = cond (ltb k count) k goal_rule

-- The number under which a second party's goal stands in the tables.
abbrev pub second_goal : ℕ
second_goal = 65

-- The action is that of a goal which stands: the first party's, the second's.
abbrev pub is_goal : Bool → Bool → ℕ → Bool
is_goal first second a = (second && eqb a second_goal) || (first && eqb a Goal)

-- The bodies of the rules and of the goals that stand. With the first party's alone they are, by computation, the bodies of a run alone.
abbrev pub bodies_with : List ℕ → Bool → Bool → List ℕ → List ℕ → Bodies
bodies_with rules first second goal goal' = record {
  fits = λ i a. cond (eqb i goal_rule) (is_goal first second a) (ltb i (length rules / rule_width) && eqb (head_of rules i) a);
  words = λ i a. cond (eqb i goal_rule) (cond (second && eqb a second_goal) goal' goal) (words_of rules i);
}
