-- The words lent to the evaluator, as steps, bodies and rules (document 01, "Words lent to the evaluator"). Assumes nothing.
use Rattle.std.specs.Prelude.{ℕ, zero, suc, ◌+◌, ◌*◌, ◌/◌, ◌%◌, List, [], ◌∷◌, map, get_or, take, drop, length}
use Rattle.steps.specs.State.{State}
use Rattle.steps.specs.Step.{Step, query, insert, delete, call, deny, Body, Book}
use Rattle.steps.specs.Run.{Run}
use Rattle.steps.specs.Widths.{rule_width}

-- "Step: a 16-bit word, 256 times kind plus index."
abbrev pub kind_of : ℕ → ℕ
kind_of w = w / 256

abbrev pub index_of : ℕ → ℕ
index_of w = w % 256

-- "Kinds: 0 query, 1 insert, 2 delete, 3 call"; "a fifth step, kind 4". A word of any other kind is refused, so its meaning is never used.
unfoldable pub step_by : ℕ → ℕ → Step
step_by zero i = query i
step_by (suc zero) i = insert i
step_by (suc (suc zero)) i = delete i
step_by (suc (suc (suc zero))) i = call i
step_by (suc (suc (suc (suc k)))) i = deny i

-- The step of a word.
abbrev pub step_of : ℕ → Step
step_of w = step_by (kind_of w) (index_of w)

-- The steps of a list of step words; "goal: 0 to 16 step words".
abbrev pub body_of : List ℕ → Body
body_of words = map step_of words

-- Of rule r, its head,
abbrev pub head_of : List ℕ → ℕ → ℕ
head_of rules r = get_or rules (rule_width * r) 0

-- its step count,
abbrev pub count_of : List ℕ → ℕ → ℕ
count_of rules r = get_or rules (rule_width * r + 1) 0

-- and the step words that are used.
abbrev pub words_of : List ℕ → ℕ → List ℕ
words_of rules r = take (count_of rules r) (drop (rule_width * r + 2) rules)

-- "Rules are numbered from 0." The n rules from number r on,
unfoldable pub rules_from : List ℕ → ℕ → ℕ → Book
rules_from rules r zero = []
rules_from rules r (suc n) = record { head = head_of rules r; body = body_of (words_of rules r) } ∷ rules_from rules (suc r) n

-- and all rules of the lent words.
abbrev pub book_of : List ℕ → Book
book_of rules = rules_from rules 0 (length rules / rule_width)

-- The run of lent rule words, goal words and start.
abbrev pub run_of : List ℕ → List ℕ → State → Run
run_of rules goal start = record { book = book_of rules; goal = body_of goal; start = start }
