-- The refusals of texts that are written: 50, and 70 where two sheets are merged (requests R-1 and R-12). Assumes nothing.
use Rattle.std.specs.Prelude.{ℕ}

-- 50: fewer bytes lent than the text has. 70: a name that is a fluent in one sheet and an action in the other.
abbrev pub text_refusals : record { text_short : ℕ; both_kinds : ℕ }
text_refusals = record { text_short = 50; both_kinds = 70 }
