-- Small cases, computed from the definitions; outputs are lent with 9 in every word. Assumes nothing.
use mathlib.Core.Path.{◌≡◌, refl}
use mathlib.Core.List.{[], ◌∷◌}
use lib.ListN.{replicate}
use Rattle.steps.specs.Acceptance.{each_below, bad_state}
use Rattle.archive.specs.Archive.{tabulate, column, columns, stored, restored}
use Rattle.archive.specs.Archived.{bad_states, bad_bits, store_refusal, restore_refusal, after}

store_two_fluents : after 0 (stored 2 (0 ∷ 1 ∷ 3 ∷ 2 ∷ [])) (9 ∷ 9 ∷ 9 ∷ []) ≡ 6 ∷ 12 ∷ 9 ∷ []
unfolding columns tabulate column
store_two_fluents = refl

restore_two_fluents : after 0 (restored 2 4 (6 ∷ 12 ∷ [])) (9 ∷ 9 ∷ 9 ∷ 9 ∷ 9 ∷ []) ≡ 0 ∷ 1 ∷ 3 ∷ 2 ∷ 9 ∷ []
unfolding columns tabulate column
restore_two_fluents = refl

store_two_blocks : after 0 (stored 1 (replicate 65 1)) (9 ∷ 9 ∷ 9 ∷ []) ≡ 18446744073709551615 ∷ 1 ∷ 9 ∷ []
unfolding columns tabulate column
store_two_blocks = refl

store_no_fluents : after 0 (stored 0 (0 ∷ 0 ∷ 0 ∷ [])) (9 ∷ []) ≡ 9 ∷ []
unfolding columns tabulate column
store_no_fluents = refl

restore_no_fluents : after 0 (restored 0 3 []) (9 ∷ 9 ∷ 9 ∷ 9 ∷ []) ≡ 0 ∷ 0 ∷ 0 ∷ 9 ∷ []
unfolding columns tabulate column
restore_no_fluents = refl

store_no_states : stored 2 [] ≡ []
unfolding columns tabulate column
store_no_states = refl

restore_no_states : restored 2 0 [] ≡ []
unfolding columns tabulate column
restore_no_states = refl

-- drill D9's path
store_path : stored 2 (0 ∷ 1 ∷ 0 ∷ 1 ∷ 0 ∷ []) ≡ 10 ∷ 0 ∷ []
unfolding columns tabulate column
store_path = refl

-- ---- refusals

store_65_fluents : store_refusal 65 (0 ∷ []) 9 ≡ 20
unfolding store_refusal
store_65_fluents = refl

store_bad_state : store_refusal 1 (2 ∷ []) 0 ≡ 24
unfolding store_refusal bad_states each_below bad_state
store_bad_state = refl

store_short : store_refusal 2 (0 ∷ []) 1 ≡ 80
unfolding store_refusal bad_states each_below bad_state
store_short = refl

restore_65_fluents : restore_refusal 65 1 [] 9 ≡ 20
unfolding restore_refusal
restore_65_fluents = refl

restore_word_missing : restore_refusal 2 1 (0 ∷ []) 9 ≡ 81
unfolding restore_refusal
restore_word_missing = refl

restore_block_missing : restore_refusal 2 65 (0 ∷ 0 ∷ []) 99 ≡ 81
unfolding restore_refusal
restore_block_missing = refl

restore_all_missing : restore_refusal 64 18446744073709551615 [] 0 ≡ 81
unfolding restore_refusal
restore_all_missing = refl

restore_past_end : restore_refusal 2 1 (2 ∷ 0 ∷ []) 0 ≡ 82
unfolding restore_refusal bad_bits each_below
restore_past_end = refl

restore_short : restore_refusal 2 1 (1 ∷ 0 ∷ []) 0 ≡ 80
unfolding restore_refusal bad_bits each_below
restore_short = refl

restore_short_no_fluents : restore_refusal 0 18446744073709551615 [] 0 ≡ 80
unfolding restore_refusal bad_bits each_below
restore_short_no_fluents = refl
