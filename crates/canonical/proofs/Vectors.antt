-- The words of some tables: D1, D2, a run where the order of answers and the choice of justification tell, one where the order of calls tells.
-- Assumes nothing.
use Prim.Native.Nat.{ℕ, ◌-◌}
use mathlib.Core.Path.{◌≡◌, refl}
use mathlib.Core.List.{List, [], ◌∷◌, ◌++◌, map}
use lib.ListN.{length, replicate}
use Rattle.steps.specs.Elementary.{elementary}
use Rattle.steps.specs.Words.{step_by}
use Rattle.steps.specs.Widths.{rule_width}
use Rattle.canonical.specs.Rows.{AnswerRow, Rows, call_words, answer_words}
use Rattle.canonical.specs.CallList.{call_list}
use Rattle.canonical.specs.Rounds.{after_round}

abbrev rule : List ℕ → List ℕ
rule ws = ws ++ replicate (rule_width - length ws) 0

-- ---- D1

abbrev pub d1_rules : List ℕ
d1_rules = rule (0 ∷ 1 ∷ 256 ∷ []) ++ rule (1 ∷ 4 ∷ 768 ∷ 0 ∷ 257 ∷ 512 ∷ [])

abbrev pub d1 : ℕ → Rows
d1 r = after_round d1_rules (769 ∷ []) 0 r

pub d1_calls : call_words (d1 5).calls ≡ 64 ∷ 0 ∷ 0 ∷ 1 ∷ 0 ∷ 1 ∷ 0 ∷ 0 ∷ 2 ∷ []
unfolding call_words after_round step_by elementary
d1_calls = refl

-- call, final state, rule, 16 words of evidence, round
pub d1_answers : answer_words (d1 5).answers ≡
    2 ∷ 1 ∷ 0 ∷ 0 ∷ 0 ∷ 0 ∷ 0 ∷ 0 ∷ 0 ∷ 0 ∷ 0 ∷ 0 ∷ 0 ∷ 0 ∷ 0 ∷ 0 ∷ 0 ∷ 0 ∷ 0 ∷ 3 ∷
    1 ∷ 2 ∷ 1 ∷ 0 ∷ 0 ∷ 0 ∷ 0 ∷ 0 ∷ 0 ∷ 0 ∷ 0 ∷ 0 ∷ 0 ∷ 0 ∷ 0 ∷ 0 ∷ 0 ∷ 0 ∷ 0 ∷ 4 ∷
    0 ∷ 2 ∷ 256 ∷ 1 ∷ 0 ∷ 0 ∷ 0 ∷ 0 ∷ 0 ∷ 0 ∷ 0 ∷ 0 ∷ 0 ∷ 0 ∷ 0 ∷ 0 ∷ 0 ∷ 0 ∷ 0 ∷ 5 ∷ []
unfolding answer_words after_round step_by elementary
d1_answers = refl

-- ---- D2

abbrev pub d2_rules : List ℕ
d2_rules = rule (0 ∷ 3 ∷ 768 ∷ 0 ∷ 257 ∷ []) ++ rule (0 ∷ 1 ∷ 256 ∷ [])

abbrev pub d2 : ℕ → Rows
d2 r = after_round d2_rules (768 ∷ []) 0 r

pub d2_calls : call_words (d2 4).calls ≡ 64 ∷ 0 ∷ 0 ∷ 0 ∷ 0 ∷ 1 ∷ []
unfolding call_words after_round step_by elementary
d2_calls = refl

pub d2_answers : answer_words (d2 4).answers ≡
    1 ∷ 1 ∷ 1 ∷ 0 ∷ 0 ∷ 0 ∷ 0 ∷ 0 ∷ 0 ∷ 0 ∷ 0 ∷ 0 ∷ 0 ∷ 0 ∷ 0 ∷ 0 ∷ 0 ∷ 0 ∷ 0 ∷ 2 ∷
    0 ∷ 1 ∷ 256 ∷ 0 ∷ 0 ∷ 0 ∷ 0 ∷ 0 ∷ 0 ∷ 0 ∷ 0 ∷ 0 ∷ 0 ∷ 0 ∷ 0 ∷ 0 ∷ 0 ∷ 0 ∷ 0 ∷ 3 ∷
    1 ∷ 3 ∷ 0 ∷ 0 ∷ 0 ∷ 0 ∷ 0 ∷ 0 ∷ 0 ∷ 0 ∷ 0 ∷ 0 ∷ 0 ∷ 0 ∷ 0 ∷ 0 ∷ 0 ∷ 0 ∷ 0 ∷ 3 ∷
    0 ∷ 3 ∷ 256 ∷ 2 ∷ 0 ∷ 0 ∷ 0 ∷ 0 ∷ 0 ∷ 0 ∷ 0 ∷ 0 ∷ 0 ∷ 0 ∷ 0 ∷ 0 ∷ 0 ∷ 0 ∷ 0 ∷ 4 ∷ []
unfolding answer_words after_round step_by elementary
d2_answers = refl

pub d2_list : call_list (d2 4).calls ≡ 1 ∷ 0 ∷ []
unfolding call_list after_round step_by elementary
d2_list = refl

-- ---- the rules `g: +b`, `g: +a`, `g: +a +b` and the goal `!g !g`: finals against the order of the rules, several justifications of one answer

abbrev pub three_rules : List ℕ
three_rules = rule (0 ∷ 1 ∷ 257 ∷ []) ++ (rule (0 ∷ 1 ∷ 256 ∷ []) ++ rule (0 ∷ 2 ∷ 256 ∷ 257 ∷ []))

abbrev pub three : ℕ → Rows
three r = after_round three_rules (768 ∷ 768 ∷ []) 0 r

pub three_calls : call_words (three 5).calls ≡ 64 ∷ 0 ∷ 0 ∷ 0 ∷ 0 ∷ 1 ∷ 0 ∷ 1 ∷ 3 ∷ 0 ∷ 2 ∷ 3 ∷ 0 ∷ 3 ∷ 3 ∷ []
unfolding call_words after_round step_by elementary
three_calls = refl

-- call, final state, rule and evidence, round
abbrev brief : AnswerRow → ℕ × ℕ × ℕ × List ℕ × ℕ
brief a = (a.call, a.final, a.rule, a.evidence, a.round)

pub three_answers : map brief (three 5).answers ≡
    (1, 1, 1, 0 ∷ [], 2) ∷ (1, 2, 0, 0 ∷ [], 2) ∷ (1, 3, 2, 0 ∷ 0 ∷ [], 2) ∷
    (2, 1, 1, 0 ∷ [], 4) ∷ (2, 3, 0, 0 ∷ [], 4) ∷ (3, 2, 0, 0 ∷ [], 4) ∷ (3, 3, 1, 0 ∷ [], 4) ∷ (4, 3, 0, 0 ∷ [], 4) ∷
    (0, 1, 256, 0 ∷ 3 ∷ [], 5) ∷ (0, 2, 256, 1 ∷ 5 ∷ [], 5) ∷ (0, 3, 256, 0 ∷ 4 ∷ [], 5) ∷ []
unfolding after_round step_by elementary
three_answers = refl

-- ---- the rules `g: +a !h`, `g: !k` and the goal `!g`: of the two calls of a round the lower action has the higher state

abbrev crossed_rules : List ℕ
crossed_rules = rule (0 ∷ 2 ∷ 256 ∷ 769 ∷ []) ++ rule (0 ∷ 1 ∷ 770 ∷ [])

pub crossed_calls : call_words (after_round crossed_rules (768 ∷ []) 0 2).calls ≡ 64 ∷ 0 ∷ 0 ∷ 0 ∷ 0 ∷ 1 ∷ 1 ∷ 1 ∷ 2 ∷ 2 ∷ 0 ∷ 2 ∷ []
unfolding call_words after_round step_by elementary
crossed_calls = refl
