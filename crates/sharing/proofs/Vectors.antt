-- Cases over D2's book, in tables with room for 4 calls and 10 answers: openings, the words of ledgers, and paths. Assumes nothing.
use Prim.Native.Nat.{ℕ, ◌-◌}
use mathlib.Core.Path.{◌≡◌, refl}
use mathlib.Core.Bool.{true, false}
use mathlib.Core.List.{List, [], ◌∷◌, ◌++◌}
use lib.ListN.{length, replicate}
use Rattle.steps.specs.State.{State}
use Rattle.steps.specs.Words.{step_by}
use Rattle.steps.specs.Widths.{rule_width}
use Rattle.steps.specs.Elementary.{elementary}
use Rattle.steps.specs.Acceptance.{each_below, good_step, good_word, good_rule, bad_counts, bad_length, bad_rules, bad_goal, bad_state, words_refusal}
use Rattle.records.specs.Records.{follow, follows, justified}
use Rattle.checks.specs.Checks.{all_justified}
use Rattle.unfolding.specs.Path.{shown, adds, walked, below, path_of}
use Rattle.evaluator.specs.Evaluated.{asked}
use Rattle.sharing.specs.Parties.{Account, Ledger, vacant, opened, goal_number, account_words, ledger_words, account_at, ledger_of}
use Rattle.sharing.specs.Charged.{goal_kept, goal_under, over_limits, over_rooms}
use Rattle.sharing.specs.Shared.{book_refusal}
use Rattle.sharing.specs.SharedPath.{good_call_kept, goals_refusal, bad_rows, shared_states, shared_fault, traced_refusal}

-- ---- openings

abbrev calls₀ : List ℕ
calls₀ = replicate 8 0

abbrev answers₀ : List ℕ
answers₀ = replicate 190 0

-- Limits of 2 calls and 4 answers each are within the rooms, and so are 5 answers each;
pub opening_fits : over_limits (opened 2 4 2 4) calls₀ answers₀ ≡ false
unfolding over_limits
opening_fits = refl

pub opening_just_fits : over_limits (opened 2 5 2 5) calls₀ answers₀ ≡ false
unfolding over_limits
opening_just_fits = refl

-- 3 and 2 calls are not, 5 and 6 answers are not, and no two limits of 64 bits add up to little.
pub opening_calls : over_limits (opened 3 4 2 4) calls₀ answers₀ ≡ true
unfolding over_limits
opening_calls = refl

pub opening_answers : over_limits (opened 2 5 2 6) calls₀ answers₀ ≡ true
unfolding over_limits
opening_answers = refl

pub opening_most : over_limits (opened 18446744073709551615 4 18446744073709551615 4) calls₀ answers₀ ≡ true
unfolding over_limits
opening_most = refl

-- ---- ledgers

-- A refused opening keeps 44 words of 0.
pub no_words : ledger_words (opened 0 0 0 0) ≡ replicate 44 0
unfolding ledger_words account_words
no_words = refl

-- The second party holds the rows of `!g ?b` at 0: 2 calls and 3 answers.
abbrev left : Ledger
left = record { first = vacant 2 4; second = record { call_limit = 2; answer_limit = 4; holds = true; goal = 768 ∷ 1 ∷ []; start = 0 }; calls = 2; answers = 3 }

pub left_words : ledger_words left ≡
    2 ∷ 4 ∷ 0 ∷ 0 ∷ 0 ∷ 0 ∷ 0 ∷ 0 ∷ 0 ∷ 0 ∷ 0 ∷ 0 ∷ 0 ∷ 0 ∷ 0 ∷ 0 ∷ 0 ∷ 0 ∷ 0 ∷ 0 ∷ 0 ∷
    2 ∷ 4 ∷ 1 ∷ 0 ∷ 2 ∷ 768 ∷ 1 ∷ 0 ∷ 0 ∷ 0 ∷ 0 ∷ 0 ∷ 0 ∷ 0 ∷ 0 ∷ 0 ∷ 0 ∷ 0 ∷ 0 ∷ 0 ∷ 0 ∷
    2 ∷ 3 ∷ []
unfolding ledger_words account_words
left_words = refl

pub left_read : ledger_of (ledger_words left) ≡ left
unfolding ledger_of account_at ledger_words account_words
left_read = refl

-- Any word but 0 says that rows are held; a start and a goal for which none are held are not looked at; 43 words keep nothing.
pub held_by_seven : account_at (2 ∷ 4 ∷ 7 ∷ 3 ∷ 1 ∷ 768 ∷ []) 0 ≡ record { call_limit = 2; answer_limit = 4; holds = true; goal = 768 ∷ []; start = 3 }
unfolding account_at
held_by_seven = refl

pub none_held : account_at (2 ∷ 4 ∷ 0 ∷ 3 ∷ 1 ∷ 768 ∷ []) 0 ≡ vacant 2 4
unfolding account_at
none_held = refl

pub short_words : ledger_of (replicate 43 9) ≡ opened 0 0 0 0
unfolding ledger_of
short_words = refl

-- 17 goal steps are no goal, of either party.
abbrev seventeen : List ℕ
seventeen = 2 ∷ 4 ∷ 1 ∷ 0 ∷ 17 ∷ replicate 16 0

pub long_goals : (bad_goal 2 1 (ledger_of (seventeen ++ seventeen ++ 0 ∷ 0 ∷ [])).first.goal ≡ true) × (bad_goal 2 1 (ledger_of (seventeen ++ seventeen ++ 0 ∷ 0 ∷ [])).second.goal ≡ true)
unfolding ledger_of account_at bad_goal
long_goals = (refl, refl)

-- ---- the book and the path

abbrev rule : List ℕ → List ℕ
rule ws = ws ++ replicate (rule_width - length ws) 0

-- g: `!g ?a +b`; g: `+a`.
abbrev d2 : List ℕ
d2 = rule (0 ∷ 3 ∷ 768 ∷ 0 ∷ 257 ∷ []) ++ rule (0 ∷ 1 ∷ 256 ∷ [])

-- 65 fluents are refused with 20; D2's book is not.
pub too_many_fluents : book_refusal (asked 65 1 d2 (768 ∷ []) 0) ≡ 20
unfolding words_refusal bad_counts
too_many_fluents = refl

-- The tables that `left` counts: the goal of the second at 0, and g at 0; g ends in 1, then in 3, and so does the goal.
abbrev calls : List ℕ
calls = (65 ∷ 0 ∷ 0 ∷ 0 ∷ []) ++ replicate 4 0

abbrev answers : List ℕ
answers = (1 ∷ 1 ∷ 1 ∷ replicate 16 0) ++ (1 ∷ 3 ∷ 0 ∷ replicate 16 0) ++ (0 ∷ 3 ∷ 256 ∷ 1 ∷ replicate 15 0) ++ replicate 133 0

abbrev refusal : List ℕ → ℕ → ℕ → ℕ
refusal words x places = traced_refusal 2 1 d2 words calls answers x (replicate places 0)

abbrev states : ℕ → List State
states x = shared_states 2 1 d2 (ledger_words left) calls answers x

pub paths : (states 0 ≡ 0 ∷ 1 ∷ []) × (states 1 ≡ 0 ∷ 1 ∷ 3 ∷ []) × (states 2 ≡ 0 ∷ 1 ∷ 3 ∷ [])
unfolding path_of below walked adds shown follow goal_under goal_number ledger_of account_at ledger_words account_words step_by elementary
paths = (refl, refl, refl)

-- Three places serve, two are 43; there is no fourth record (41).
pub path_refused : (refusal (ledger_words left) 2 3 ≡ 0) × (refusal (ledger_words left) 2 2 ≡ 43) × (refusal (ledger_words left) 3 3 ≡ 41)
unfolding traced_refusal shared_fault goals_refusal bad_rows good_call_kept words_refusal bad_counts bad_length bad_rules good_rule good_word good_step bad_goal bad_state each_below over_rooms goal_kept all_justified justified follows path_of below walked adds shown follow goal_under goal_number ledger_of account_at ledger_words account_words step_by elementary
path_refused = (refl, refl, refl)

-- Where no goal is kept, a call record of 65 is 42; words that are not 44 keep no record (41).
pub goal_not_kept : (refusal (ledger_words (record { first = vacant 2 4; second = vacant 2 4; calls = 2; answers = 3 })) 2 3 ≡ 42) × (refusal [] 0 3 ≡ 41)
unfolding traced_refusal shared_fault goals_refusal bad_rows good_call_kept words_refusal bad_counts bad_length bad_rules good_rule good_word good_step bad_goal bad_state each_below over_rooms goal_kept all_justified justified follows path_of below walked adds shown follow goal_under goal_number ledger_of account_at ledger_words account_words step_by elementary
goal_not_kept = (refl, refl)

-- The goal's call record alone is 42 where its goal is not kept: the answers are g's. Where it is kept it is none.
abbrev g_answers : ℕ → ℕ
g_answers places = traced_refusal 2 1 d2 (ledger_words (record { first = vacant 2 4; second = vacant 2 4; calls = 2; answers = 2 })) calls answers 1 (replicate places 0)

pub call_not_kept : (g_answers 3 ≡ 42) × (refusal (ledger_words (record { first = vacant 2 4; second = left.second; calls = 2; answers = 2 })) 1 3 ≡ 0)
unfolding traced_refusal shared_fault goals_refusal bad_rows good_call_kept words_refusal bad_counts bad_length bad_rules good_rule good_word good_step bad_goal bad_state each_below over_rooms goal_kept all_justified justified follows path_of below walked adds shown follow goal_under goal_number ledger_of account_at ledger_words account_words step_by elementary
call_not_kept = (refl, refl)
