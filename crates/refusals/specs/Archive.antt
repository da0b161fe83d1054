-- The refusals of storing and restoring, 80 to 82 (request R-13). Assumes nothing.
use Rattle.std.specs.Prelude.{ℕ}

-- 80: fewer places lent than are to be written. 81: a number of stored words that does not match the count of states. 82: a stored bit past the
-- last state.
abbrev pub archive_refusals : record { output_short : ℕ; bad_word_count : ℕ; bit_past_end : ℕ }
archive_refusals = record { output_short = 80; bad_word_count = 81; bit_past_end = 82 }
