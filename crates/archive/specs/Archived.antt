-- What `store` and `restore` give and leave, for every input. Assumes nothing.
use Rattle.std.specs.Prelude.{ℕ, ◌+◌, ◌*◌, ◌/◌, ◌%◌, ◌^◌, ◌≡◌, Bool, cond, not, ◌&&◌, List, ◌++◌, length, drop, get_or, eqb, ltb, Result, Ok, Err}
use Rattle.refusals.specs.declared.Refusal.{Refusal}
use Rattle.refusals.specs.Run.{run_refusals}
use Rattle.refusals.specs.Archive.{archive_refusals}
use Rattle.steps.specs.State.{State}
use Rattle.steps.specs.Acceptance.{each_below, bad_state}
use Rattle.archive.specs.Archive.{blocks, stored, restored}

-- 20: over 64 fluents (no actions are given here)
abbrev pub bad_count : ℕ → Bool
bad_count fluents = ltb 64 fluents

-- 81: a word count that does not match: there is one word per fluent for each block
abbrev pub bad_words : (fluents count : ℕ) → List ℕ → Bool
bad_words fluents count words = not (eqb (length words) (blocks count * fluents))

-- 82: a set bit past the last state: where the last block is not full, a word of it has a bit at or above the number of its states
unfoldable pub bad_bits : (fluents count : ℕ) → List ℕ → Bool
bad_bits fluents count words =
    not (eqb (count % 64) 0) && not (each_below fluents (λ k. eqb (get_or words (count / 64 * fluents + k) 0 / 2 ^ (count % 64)) 0))

-- 24: a state with a bit at or above the fluent count
unfoldable pub bad_states : ℕ → List State → Bool
bad_states fluents states = not (each_below (length states) (λ i. not (bad_state fluents (get_or states i 0))))

-- `store`: the first of 20, 24 and 80 that is met, or 0. The words are its own: no 81, no 82.
unfoldable pub store_refusal : ℕ → List State → (room : ℕ) → ℕ
store_refusal fluents states room =
    cond (bad_count fluents) run_refusals.bad_counts
    (cond (bad_states fluents states) run_refusals.bad_start
    (cond (ltb room (blocks (length states) * fluents)) archive_refusals.output_short
    0))

-- `restore`: the first of 20, 81, 82 and 80 that is met, or 0. The states are its own: no 24.
unfoldable pub restore_refusal : (fluents count : ℕ) → List ℕ → (room : ℕ) → ℕ
restore_refusal fluents count words room =
    cond (bad_count fluents) run_refusals.bad_counts
    (cond (bad_words fluents count words) archive_refusals.bad_word_count
    (cond (bad_bits fluents count words) archive_refusals.bit_past_end
    (cond (ltb room count) archive_refusals.output_short
    0)))

-- How many words or states are written; 0 where refused.
abbrev pub written_count : ℕ → List ℕ → ℕ
written_count refusal written = cond (eqb refusal 0) (length written) 0

-- The output: what is written, and past it what it held; unchanged where refused.
abbrev pub after : ℕ → List ℕ → List ℕ → List ℕ
after refusal written out = cond (eqb refusal 0) (written ++ drop (length written) out) out

-- What is told and left, by the refusal, what is to be written, and the output as it was.
pub record Archived (refusal : ℕ) (written out : List ℕ) (told count : ℕ) (left : List ℕ) : Type 0 where
  pub refused : told ≡ refusal
  pub counted : count ≡ written_count refusal written
  pub output : left ≡ after refusal written out

-- How many words or states an answer says are written; 0 where it is a refusal.
abbrev pub count_in : Result ℕ Refusal → ℕ
count_in (Ok count) = count
count_in (Err refusal) = 0

-- What `store` tells and leaves in `words`.
abbrev pub StatesStored : ℕ → List State → (words : List ℕ) → (told count : ℕ) → (left : List ℕ) → Type 0
StatesStored fluents states words = Archived (store_refusal fluents states (length words)) (stored fluents states) words

-- What `restore` tells and leaves in `states`.
abbrev pub StatesRestored : (fluents count : ℕ) → (words : List ℕ) → (states : List State) → (told given : ℕ) → (left : List State) → Type 0
StatesRestored fluents count words states = Archived (restore_refusal fluents count words (length states)) (restored fluents count words) states
