-- The refusals of a class run and of its report, 25 to 27 (requests R-4 and R-8). Assumes nothing.
use Rattle.std.specs.Prelude.{ℕ}

-- 25: over 1,024 starts, or result room under 4 words each. 26: result words that are not those of at most 1,024 starts, or do not fit the ends
-- lent, or an end with a bit too high. 27: fewer words lent than the figures of a report have.
abbrev pub class_refusals : record { bad_class : ℕ; bad_results : ℕ; report_short : ℕ }
class_refusals = record { bad_class = 25; bad_results = 26; report_short = 27 }
