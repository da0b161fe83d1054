-- The refusals of a marking, 60 to 62 (request R-9). Assumes nothing.
use Rattle.std.specs.Prelude.{ℕ}

-- 60: over 63 recorded steps. 61: fewer than 4,096 words lent for the marks. 62: a recorded step that is a call or bad.
abbrev pub marking_refusals : record { long_record : ℕ; marks_short : ℕ; bad_recorded_step : ℕ }
marking_refusals = record { long_record = 60; marks_short = 61; bad_recorded_step = 62 }
