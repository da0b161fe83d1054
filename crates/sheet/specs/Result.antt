-- What the reader gives: counts, start state and goal words in its result, and the rule words in the list lent. Assumes nothing.
use Rattle.std.specs.Prelude.{ℕ, ◌*◌, Bool, cond, List, [], ◌++◌, length, drop, ltb}
use Rattle.refusals.specs.Sheet.{sheet_refusals}
use Rattle.steps.specs.State.{State}
use Rattle.steps.specs.Widths.{rule_width}
use Rattle.fields.specs.Book.{Book, padded, joined}
use Rattle.lines.specs.Reader.{Outcome, refused, written}
use Rattle.sheet.specs.declared.Sheet.{Sheet}

-- A result, from its numbers, the start and the goal's step words; unused goal words are always 0.
abbrev pub given : ℕ → ℕ → ℕ → ℕ → ℕ → State → List ℕ → Sheet
given k n f a r s g = record { refusal = k; line = n; fluents = f; actions = a; rules = r; start = s; goal_len = length g; goal = padded g }

-- A refusal gives counts, start and goal words of 0.
abbrev pub refusal : ℕ → ℕ → Sheet
refusal number line = given number line 0 0 0 0 []

abbrev pub accepted : Book → Sheet
accepted b = given 0 0 (length b.names.fluents) (length b.names.actions) (length b.rules) b.start b.goal

-- Rule words lent, `room` of them, are fewer than 18 times the rules.
abbrev pub short : ℕ → Book → Bool
short room b = ltb room (rule_width * length b.rules)

-- The result, where `room` rule words are lent.
unfoldable pub result_of : ℕ → Outcome → Sheet
result_of room (refused number line) = refusal number line
result_of room (written b) = cond (short room b) (refusal sheet_refusals.no_room 0) (accepted b)

-- The list lent, as it is afterwards: refusals leave it unchanged, and past the last rule it is unchanged.
unfoldable pub rules_after : List ℕ → Outcome → List ℕ
rules_after lent (refused number line) = lent
rules_after lent (written b) = cond (short (length lent) b) lent (joined b.rules ++ drop (rule_width * length b.rules) lent)
