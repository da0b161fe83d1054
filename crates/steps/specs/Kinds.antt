-- The kinds of steps as the code has them, and their numbers in a step word. Assumes nothing.
use Rattle.std.specs.Prelude.{ℕ, zero, suc, Option, Some, None}
use Rattle.steps.specs.declared.word.Kind.{Kind}
use Rattle.steps.specs.declared.word.Kind.TheVariants.{Query, Insert, Delete, Call, Denial}

-- "Kinds: 0 query, 1 insert, 2 delete, 3 call"; "a fifth step, kind 4".
abbrev pub number_of : Kind → ℕ
number_of Query = 0
number_of Insert = 1
number_of Delete = 2
number_of Call = 3
number_of Denial = 4

-- The kind of a number, if it is of one.
abbrev pub kind_at : ℕ → Option Kind
kind_at zero = Some Query
kind_at (suc zero) = Some Insert
kind_at (suc (suc zero)) = Some Delete
kind_at (suc (suc (suc zero))) = Some Call
kind_at (suc (suc (suc (suc zero)))) = Some Denial
kind_at (suc (suc (suc (suc (suc k))))) = None
