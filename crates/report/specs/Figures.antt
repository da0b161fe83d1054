-- The figures of a class run (request R-8), from its result words and its ends. Assumes nothing.
use Rattle.std.specs.Prelude.{ℕ, zero, suc, ◌+◌, ◌*◌, ◌/◌, Bool, cond, List, [], ◌++◌, get_or, length, eqb}
use Rattle.steps.specs.State.{State, bit}
use Rattle.report.specs.Fraction.{fraction}

-- The sum of f below n.
unfoldable pub sum_below : ℕ → (ℕ → ℕ) → ℕ
sum_below zero f = 0
sum_below (suc n) f = sum_below n f + f n

-- In how many ends fluent k holds. "The same end from two starts counts twice": places of the list are counted.
abbrev pub holding : List State → ℕ → ℕ
holding ends k = sum_below (length ends) (λ i. bit (get_or ends i 0) k)

-- "How many fluents hold in an end is counted from its bits."
abbrev pub held : State → ℕ
held s = sum_below 64 (bit s)

abbrev pub all_held : List State → ℕ
all_held ends = sum_below (length ends) (λ i. held (get_or ends i 0))

-- The result words are 4 for each start: refusal number or 0, ends, calls, answers.
abbrev pub starts : List ℕ → ℕ
starts results = length results / 4

abbrev pub unrefused : List ℕ → ℕ → Bool
unrefused results i = eqb (get_or results (4 * i) 0) 0

abbrev pub ends_of : List ℕ → ℕ → ℕ
ends_of results i = get_or results (4 * i + 1) 0

-- How many starts are unrefused, and how many ends they have.
abbrev pub runs : List ℕ → ℕ
runs results = sum_below (starts results) (λ i. cond (unrefused results i) 1 0)

abbrev pub all_ends : List ℕ → ℕ
all_ends results = sum_below (starts results) (λ i. cond (unrefused results i) (ends_of results i) 0)

-- f 0 to f (n - 1), each over d, in order.
unfoldable pub fractions : ℕ → (ℕ → ℕ) → (d : ℕ) → List ℕ
fractions zero f d = []
fractions (suc n) f d = fractions n f d ++ fraction (f n) d

-- "The share of ends in which each fluent holds, the mean number of fluents holding in an end, and the mean ends per unrefused start;
-- the fluents in order first and then the two means."
unfoldable pub report_of : (fluents : ℕ) (results : List ℕ) → List State → List ℕ
report_of fluents results ends =
    fractions fluents (holding ends) (length ends)
    ++ fraction (all_held ends) (length ends)
    ++ fraction (length ends) (runs results)
