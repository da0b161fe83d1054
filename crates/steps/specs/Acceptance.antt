-- Which rules, goal and start are accepted: the refusals 20 to 24, computed in the order of the table "Refusals by place". Assumes nothing.
use Rattle.std.specs.Prelude.{ℕ, zero, suc, ◌+◌, ◌*◌, ◌/◌, ◌%◌, ◌^◌, Bool, true, cond, not, ◌&&◌, ◌||◌, List, get_or, length, eqb, ltb}
use Rattle.refusals.specs.Run.{run_refusals}
use Rattle.steps.specs.Words.{kind_of, index_of, head_of, count_of}
use Rattle.steps.specs.Widths.{rule_width}

-- The test holds of each number below n.
unfoldable pub each_below : ℕ → (ℕ → Bool) → Bool
each_below zero p = true
each_below (suc n) p = each_below n p && p n

-- A good step: its kind is one of the five, and its index is below the count of fluents (of actions for a call).
unfoldable pub good_step : ℕ → ℕ → ℕ → Bool
good_step fluents actions w = ltb (kind_of w) 5 && ltb (index_of w) (cond (eqb (kind_of w) 3) actions fluents)

-- Step word i of a rule with n steps is a good step, or unused and 0.
unfoldable pub good_word : ℕ → ℕ → ℕ → ℕ → ℕ → Bool
good_word fluents actions n i w = cond (ltb i n) (good_step fluents actions w) (eqb w 0)

-- Rule r: its head is an action, its count is at most 16, and its 16 step words are good.
unfoldable pub good_rule : ℕ → ℕ → List ℕ → ℕ → Bool
good_rule fluents actions rules r = ltb (head_of rules r) actions && (ltb (count_of rules r) 17
    && each_below 16 (λ i. good_word fluents actions (count_of rules r) i (get_or rules (rule_width * r + 2 + i) 0)))

-- 20: over 64 fluents or over 64 actions
unfoldable pub bad_counts : ℕ → ℕ → Bool
bad_counts fluents actions = ltb 64 fluents || ltb 64 actions

-- 21: length not a multiple of 18, or over 256 rules
unfoldable pub bad_length : List ℕ → Bool
bad_length rules = not (eqb (length rules % rule_width) 0) || ltb 256 (length rules / rule_width)

-- 22: bad head, count over 16, bad step, unused word not 0
unfoldable pub bad_rules : ℕ → ℕ → List ℕ → Bool
bad_rules fluents actions rules = not (each_below (length rules / rule_width) (good_rule fluents actions rules))

-- 23: over 16 steps or a bad step
unfoldable pub bad_goal : ℕ → ℕ → List ℕ → Bool
bad_goal fluents actions goal = ltb 16 (length goal) || not (each_below (length goal) (λ i. good_step fluents actions (get_or goal i 0)))

-- A bit at or above the fluent count: of a start it is 24.
unfoldable pub bad_state : ℕ → ℕ → Bool
bad_state fluents s = not (eqb (s / 2 ^ fluents) 0)

-- The first of 20 to 23 that is met, down the table, or 0.
unfoldable pub words_refusal : ℕ → ℕ → List ℕ → List ℕ → ℕ
words_refusal fluents actions rules goal = cond (bad_counts fluents actions) run_refusals.bad_counts
    (cond (bad_length rules) run_refusals.bad_length
    (cond (bad_rules fluents actions rules) run_refusals.bad_rule
    (cond (bad_goal fluents actions goal) run_refusals.bad_goal 0)))

-- The first of 20 to 24 that is met, down the table, or 0. "Rules, goal and start are accepted if they meet none of 20 to 24."
unfoldable pub refusal_of : ℕ → ℕ → List ℕ → List ℕ → ℕ → ℕ
refusal_of fluents actions rules goal start = let refusal = words_refusal fluents actions rules goal in
    cond (eqb refusal 0) (cond (bad_state fluents start) run_refusals.bad_start 0) refusal
