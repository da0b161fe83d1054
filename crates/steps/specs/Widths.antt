-- How long a rule is in the words lent. Assumes nothing.
use Rattle.std.specs.Prelude.{ℕ}

-- "Rule: 18 words: head, step count, 16 step words, unused ones zero."
abbrev pub rule_width : ℕ
rule_width = 18
