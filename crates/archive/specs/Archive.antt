-- Paths by valve (request R-13): the words that states are stored in, and the states that words are restored to. Assumes nothing.
use Rattle.std.specs.Prelude.{ℕ, zero, suc, ◌+◌, ◌*◌, ◌/◌, ◌%◌, List, [], ◌∷◌, ◌++◌, length, take, drop}
use Rattle.steps.specs.State.{State, bit}

-- The values of f below n, in order.
unfoldable pub tabulate : ℕ → (ℕ → ℕ) → List ℕ
tabulate zero f = []
tabulate (suc n) f = tabulate n f ++ f n ∷ []

-- Column k of some words: its bit i is bit k of word i.
unfoldable pub column : ℕ → List ℕ → ℕ
column k [] = 0
column k (w ∷ rest) = bit w k + 2 * column k rest

-- Part b of a list that is cut into parts of this size; the last may be shorter.
abbrev pub part : ℕ → ℕ → List ℕ → List ℕ
part size b xs = take size (drop (size * b) xs)

-- Of a list cut into parts of this size: the columns 0 to m - 1 of the first part, then those of the second, and so on, n in all.
unfoldable pub columns : (size m n : ℕ) → List ℕ → List ℕ
unfolding tabulate
columns size m n xs = tabulate n (λ j. column (j % m) (part size (j / m) xs))

-- How many blocks of 64 states n states make; the last may be shorter.
abbrev pub blocks : ℕ → ℕ
blocks n = (n + 63) / 64

-- "For each block of 64 states there is one word per fluent, in fluent order; bit i of a fluent's word is set exactly if it holds in
-- state i of the block": the word of fluent k is column k of the block. The column of a shorter block has no further bits: "Missing
-- states in the last block leave 0 bits."
abbrev pub stored : (fluents : ℕ) → List State → List ℕ
stored fluents states = columns 64 fluents (blocks (length states) * fluents) states

-- "The inverse needs the count of states": state i of a block is column i of the block's words.
abbrev pub restored : (fluents count : ℕ) → List ℕ → List State
restored fluents count words = columns fluents 64 count words
