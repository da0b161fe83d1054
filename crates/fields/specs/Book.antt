-- What a sheet says, apart from its text. Assumes nothing.
use Rattle.std.specs.Prelude.{ℕ, ◌-◌, List, [], ◌∷◌, ◌++◌, length, replicate}
use Rattle.steps.specs.State.{State}

-- Fluents and actions share one space of names and are numbered from 0 in order: a name's number is its place.
abbrev pub Symbols : Type 0
Symbols = record { fluents : List (List ℕ); actions : List (List ℕ) }

-- What a sheet says: the names, each rule as its 18 words, the start and the goal's step words.
abbrev pub Book : Type 0
Book = record { names : Symbols; rules : List (List ℕ); start : State; goal : List ℕ }

-- The 16 step words of a body, unused ones zero.
abbrev pub padded : List ℕ → List ℕ
padded steps = steps ++ replicate (16 - length steps) 0

-- Rule: 18 words: head, step count, 16 step words.
abbrev pub rule_words : ℕ → List ℕ → List ℕ
rule_words head steps = head ∷ length steps ∷ padded steps

-- The book with other names, with one rule more, with this start, with this goal.
abbrev pub with_names : Book → List (List ℕ) → List (List ℕ) → Book
with_names b fluents actions = record { names = record { fluents = fluents; actions = actions }; rules = b.rules; start = b.start; goal = b.goal }

abbrev pub with_rule : Book → ℕ → List ℕ → Book
with_rule b head steps = record { names = b.names; rules = b.rules ++ (rule_words head steps ∷ []); start = b.start; goal = b.goal }

abbrev pub with_start : Book → State → Book
with_start b state = record { names = b.names; rules = b.rules; start = state; goal = b.goal }

abbrev pub with_goal : Book → List ℕ → Book
with_goal b steps = record { names = b.names; rules = b.rules; start = b.start; goal = steps }

-- The words of all rules in order.
abbrev pub joined : List (List ℕ) → List ℕ
joined [] = []
joined (r ∷ rs) = r ++ joined rs
