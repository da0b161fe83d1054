-- The refusals of two parties that share their tables, 90 and 91 (request R-14). Assumes nothing.
use Rattle.std.specs.Prelude.{ℕ}

-- 90: the limits of both parties add up to more than a table's room. 91: what is kept meets 23, 24, 40 or 90, or the tables handed back do not
-- hold just that, within the limits.
abbrev pub sharing_refusals : record { over_limits : ℕ; not_as_kept : ℕ }
sharing_refusals = record { over_limits = 90; not_as_kept = 91 }
