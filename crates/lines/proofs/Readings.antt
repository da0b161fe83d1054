-- The reading after a line of each word, and at the end of an accepted sheet. Assumes nothing.
use mathlib.Core.Bool.{true}
use mathlib.Core.List.{List, [], ◌∷◌, ◌++◌}
use Prim.Native.Nat.{ℕ}
use Rattle.steps.specs.State.{State}
use Rattle.fields.specs.Book.{Book, with_names, with_rule, with_start, with_goal}
use Rattle.lines.specs.Line.{Reading}

abbrev pub read_fluent : Reading → List ℕ → Reading
read_fluent r x = record { book = with_names r.book (r.book.names.fluents ++ (x ∷ [])) r.book.names.actions; stage = 0; started = r.started }

abbrev pub read_action : Reading → List ℕ → Reading
read_action r x = record { book = with_names r.book r.book.names.fluents (r.book.names.actions ++ (x ∷ [])); stage = 1; started = r.started }

abbrev pub read_rule : Reading → ℕ → List ℕ → Reading
read_rule r head steps = record { book = with_rule r.book head steps; stage = 2; started = r.started }

abbrev pub read_start : Reading → State → Reading
read_start r state = record { book = with_start r.book state; stage = 4; started = true }

abbrev pub read_goal : Reading → List ℕ → Reading
read_goal r steps = record { book = with_goal r.book steps; stage = 5; started = r.started }

-- the reading that ends with this book
abbrev pub whole : Book → Reading
whole b = record { book = b; stage = 5; started = true }
