-- The book of two books. Assumes nothing.
use Rattle.std.specs.Prelude.{ℕ, suc, ◌+◌, ◌*◌, Bool, cond, ◌||◌, List, [], ◌∷◌, ◌++◌, map, get_or, take, drop}
use Rattle.steps.specs.State.{State, holds, added}
use Rattle.steps.specs.Words.{kind_of, index_of}
use Rattle.chars.specs.Places.{place, among, meets}
use Rattle.fields.specs.Book.{Symbols, Book, rule_words}
use Rattle.fields.specs.Field.{names_of}

-- The first list, then each of the second that does not stand yet: names, and rules as their words.
unfoldable pub together : List (List ℕ) → List (List ℕ) → List (List ℕ)
unfolding place
together xs [] = xs
together xs (y ∷ ys) = together (cond (among y xs) xs (xs ++ (y ∷ []))) ys

-- "Names of the first, then new names of the second."
abbrev pub both_names : Symbols → Symbols → Symbols
both_names y z = record { fluents = together y.fluents z.fluents; actions = together y.actions z.actions }

-- A step word of z with its name's number in m.
abbrev pub step_in : Symbols → Symbols → ℕ → ℕ
step_in m z w = 256 * kind_of w + place (get_or (names_of z (kind_of w)) (index_of w) []) (names_of m (kind_of w))

-- The 18 words of a rule of z with its names' numbers in m.
abbrev pub rule_in : Symbols → Symbols → List ℕ → List ℕ
rule_in m z r = rule_words (place (get_or z.actions (get_or r 0 0) []) m.actions) (map (step_in m z) (take (get_or r 1 0) (drop 2 r)))

-- The state `to` of the names `all`, and in it those of these names, the first of them number k, that hold in s.
unfoldable pub start_in : List (List ℕ) → ℕ → State → List (List ℕ) → State → State
unfolding place
start_in all k s [] to = to
start_in all k s (n ∷ ns) to = start_in all (suc k) s ns (cond (holds s k) (added to (place n all)) to)

-- "Rules of the first, then those of the second not already written; both starts together; the first's goal." The first's names stand
-- first, so its numbers stay.
unfoldable pub book_over : Symbols → Book → Book → Book
unfolding together start_in
book_over m a b = record {
  names = m;
  rules = together a.rules (map (rule_in m b.names) b.rules);
  start = start_in m.fluents 0 b.start b.names.fluents a.start;
  goal = a.goal;
}

abbrev pub both_books : Book → Book → Book
both_books a b = book_over (both_names a.names b.names) a b

-- 70: "a name that is a fluent in one and an action in the other".
unfoldable pub crossed : Symbols → Symbols → Bool
unfolding place
crossed y z = meets y.fluents z.actions || meets y.actions z.fluents
