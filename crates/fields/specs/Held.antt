-- Inner contracts: how the code holds what a sheet says, names as parts of the sheet, a verdict as a result. Assumes nothing.
use Rattle.std.specs.Prelude.{ℕ, ◌+◌, ◌*◌, List, take, map, Option, None, Some, Result, Ok, Err}
use Rattle.refusals.specs.declared.Refusal.{Refusal}
use Rattle.refusals.specs.Number.{number_of}
use Rattle.fields.specs.declared.book.Row.{Row}
use Rattle.fields.specs.declared.book.Names.{Names}
use Rattle.fields.specs.declared.book.Body.{Body}
use Rattle.fields.specs.declared.names.Kind.{Kind}
use Rattle.fields.specs.declared.names.Kind.TheVariants.{Query, Insert, Delete, Call, Deny}
use Rattle.fields.specs.Verdict.{Verdict, refuse, accept, ◌>>=◌}
use Rattle.fields.specs.Book.{Symbols}

-- The verdict that a result stands for, by what its value says.
abbrev pub answer : {A B : Type 0} → (A → B) → Result A Refusal → Verdict B
answer says (Ok a) = accept (says a)
answer says (Err refusal) = refuse (number_of refusal)

-- A step of this kind with a name that was judged: its word.
abbrev pub step_from : ℕ → Verdict ℕ → Verdict ℕ
step_from kind name = name >>= (λ index. accept (256 * kind + index))

-- The names of a row.
abbrev pub row_of : Row → List (List ℕ)
row_of r = map (λ x. x.now) (take r.len r.names)

-- All names.
abbrev pub symbols_of : Names → Symbols
symbols_of n = record { fluents = row_of n.fluents; actions = row_of n.actions }

-- The step words of a body.
abbrev pub steps_of : Body → List ℕ
steps_of b = take b.len b.words

-- The number of a kind: the place of its mark.
abbrev pub kind_place : Kind → ℕ
kind_place Query = 0
kind_place Insert = 1
kind_place Delete = 2
kind_place Call = 3
kind_place Deny = 4

-- The place of a mark that may be none: 5 where it is none.
abbrev pub mark_place : Option Kind → ℕ
mark_place None = 5
mark_place (Some kind) = kind_place kind
