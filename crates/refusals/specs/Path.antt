-- The refusals of the path, 40 to 43 (document 01, "Refusals by place"). Assumes nothing.
use Rattle.std.specs.Prelude.{ℕ}

-- 40: a record count over its room. 41: the record asked for is not below the count. 42: a call record that is not good, or an answer record
-- that is not justified. 43: fewer places than states in the path.
abbrev pub path_refusals : record { bad_record_count : ℕ; no_record : ℕ; bad_record : ℕ; states_short : ℕ }
path_refusals = record { bad_record_count = 40; no_record = 41; bad_record = 42; states_short = 43 }
