-- What `report` gives and leaves, for every input. Assumes nothing.
use Rattle.std.specs.Prelude.{ℕ, ◌+◌, ◌*◌, ◌%◌, Bool, cond, not, ◌||◌, List, ◌++◌, get_or, length, drop, eqb, ltb}
use Rattle.refusals.specs.Run.{run_refusals}
use Rattle.refusals.specs.Class.{class_refusals}
use Rattle.steps.specs.State.{State}
use Rattle.steps.specs.Acceptance.{each_below, bad_state}
use Rattle.report.specs.Figures.{starts, unrefused, ends_of, all_ends, report_of}

-- "Result words that are not 4 for each of at most 1,024 starts"
abbrev pub bad_result_words : List ℕ → Bool
bad_result_words results = not (eqb (length results % 4) 0) || ltb 1024 (starts results)

-- "an unrefused start with over 65,536 ends"
abbrev pub too_many_ends : List ℕ → Bool
too_many_ends results = not (each_below (starts results) (λ i. not (unrefused results i) || not (ltb 65536 (ends_of results i))))

-- "unrefused starts whose ends do not add up to the number of ends lent"
abbrev pub bad_sum : List ℕ → (lent : ℕ) → Bool
bad_sum results lent = not (eqb (all_ends results) lent)

-- What is bad of the result words, where so many ends are lent.
unfoldable pub bad_starts : List ℕ → (lent : ℕ) → Bool
bad_starts results lent = bad_result_words results || too_many_ends results || bad_sum results lent

-- "an end with a bit at or above the fluent count"
unfoldable pub bad_ends : (fluents : ℕ) → List State → Bool
bad_ends fluents ends = not (each_below (length ends) (λ i. not (bad_state fluents (get_or ends i 0))))

-- "20 for the fluent count, then 26, then 27": 26 is met in the results or in the ends, and 27 is "output room under 2 words for each
-- fluent and 4 more".
unfoldable pub refusal : (fluents : ℕ) (results : List ℕ) → List State → (room : ℕ) → ℕ
refusal fluents results ends room =
    cond (ltb 64 fluents) run_refusals.bad_counts
    (cond (bad_starts results (length ends) || bad_ends fluents ends) class_refusals.bad_results
    (cond (ltb room (2 * fluents + 4)) class_refusals.report_short
    0))

-- The output: the figures, and "the output past them is unchanged"; all of it unchanged where refused.
unfoldable pub output_after : (fluents : ℕ) (results : List ℕ) → List State → (out : List ℕ) → List ℕ
output_after fluents results ends out =
    cond (eqb (refusal fluents results ends (length out)) 0) (report_of fluents results ends ++ drop (2 * fluents + 4) out) out
