-- Small cases, computed from the definitions; outputs are lent with 9 in every word. Assumes nothing.
use mathlib.Core.Path.{◌≡◌, refl}
use mathlib.Core.List.{[], ◌∷◌}
use Rattle.steps.specs.Acceptance.{each_below, bad_state}
use Rattle.report.specs.Fraction.{euclid, fraction}
use Rattle.report.specs.Figures.{sum_below, fractions, report_of}
use Rattle.report.specs.Report.{bad_starts, bad_ends, refusal, output_after}

eight_over_twelve : fraction 8 12 ≡ 2 ∷ 3 ∷ []
unfolding fraction euclid
eight_over_twelve = refl

two_starts : output_after 2 (0 ∷ 2 ∷ 2 ∷ 4 ∷ 31 ∷ 5 ∷ 5 ∷ 5 ∷ 0 ∷ 1 ∷ 1 ∷ 1 ∷ []) (1 ∷ 3 ∷ 1 ∷ []) (9 ∷ 9 ∷ 9 ∷ 9 ∷ 9 ∷ 9 ∷ 9 ∷ 9 ∷ 9 ∷ [])
    ≡ 1 ∷ 1 ∷ 1 ∷ 3 ∷ 4 ∷ 3 ∷ 3 ∷ 2 ∷ 9 ∷ []
unfolding output_after report_of fractions fraction euclid sum_below refusal bad_starts bad_ends each_below bad_state
two_starts = refl

no_starts : report_of 2 [] [] ≡ 0 ∷ 0 ∷ 0 ∷ 0 ∷ 0 ∷ 0 ∷ 0 ∷ 0 ∷ []
unfolding report_of fractions fraction euclid sum_below
no_starts = refl

no_ends : report_of 1 (0 ∷ 0 ∷ 2 ∷ 0 ∷ []) [] ≡ 0 ∷ 0 ∷ 0 ∷ 0 ∷ 0 ∷ 1 ∷ []
unfolding report_of fractions fraction euclid sum_below
no_ends = refl

all_refused : report_of 1 (30 ∷ 4 ∷ 4 ∷ 4 ∷ 24 ∷ 0 ∷ 0 ∷ 0 ∷ []) [] ≡ 0 ∷ 0 ∷ 0 ∷ 0 ∷ 0 ∷ 0 ∷ []
unfolding report_of fractions fraction euclid sum_below
all_refused = refl

end_twice : report_of 1 (0 ∷ 1 ∷ 1 ∷ 1 ∷ 0 ∷ 1 ∷ 1 ∷ 1 ∷ []) (1 ∷ 1 ∷ []) ≡ 1 ∷ 1 ∷ 1 ∷ 1 ∷ 1 ∷ 1 ∷ []
unfolding report_of fractions fraction euclid sum_below
end_twice = refl

-- ---- refusals

fluents_65 : refusal 65 (0 ∷ []) (1 ∷ []) 9 ≡ 20
unfolding refusal
fluents_65 = refl

five_words : refusal 1 (0 ∷ 0 ∷ 0 ∷ 0 ∷ 0 ∷ []) [] 9 ≡ 26
unfolding refusal bad_starts bad_ends each_below sum_below bad_state
five_words = refl

end_missing : refusal 1 (0 ∷ 1 ∷ 1 ∷ 1 ∷ []) [] 9 ≡ 26
unfolding refusal bad_starts bad_ends each_below sum_below bad_state
end_missing = refl

ends_65537 : refusal 1 (0 ∷ 65537 ∷ 0 ∷ 0 ∷ []) [] 9 ≡ 26
unfolding refusal bad_starts bad_ends each_below sum_below bad_state
ends_65537 = refl

-- a sum of 64 bits would be 0
sum_wraps : refusal 1 (0 ∷ 18446744073709551615 ∷ 0 ∷ 0 ∷ 0 ∷ 1 ∷ 0 ∷ 0 ∷ []) [] 9 ≡ 26
unfolding refusal bad_starts bad_ends each_below sum_below bad_state
sum_wraps = refl

bit_too_high : refusal 1 (0 ∷ 1 ∷ 1 ∷ 1 ∷ []) (2 ∷ []) 0 ≡ 26
unfolding refusal bad_starts bad_ends each_below sum_below bad_state
bit_too_high = refl

five_places : refusal 1 (0 ∷ 1 ∷ 1 ∷ 1 ∷ []) (1 ∷ []) 5 ≡ 27
unfolding refusal bad_starts bad_ends each_below sum_below bad_state
five_places = refl
