-- `texts::starts` meets its contract. The invariant: the state with all parts is the one so far with those from i on. Assumes nothing.
use mathlib.Core.Path.{◌≡◌}
use mathlib.Core.List.{◌++◌}
use Prim.Native.Nat.{◌-◌, ◌≤◌}
use Rattle.parts.specs.Parts.{parts_from, inserted_in}
use Rattle.parts.proofs.texts.starts.Given as goal

abbrev pub invariant-loop-i : goal.invariant-loop-i
invariant-loop-i l =
    (inserted_in (parts_from (l.first ++ l.second) l.list l.lo (l.hi - l.lo)) 0 l.s.0 (parts_from (l.first ++ l.second) l.list l.from (l.end - l.from)) l.initial.state.0
    ≡ inserted_in (parts_from (l.first ++ l.second) l.list l.lo (l.hi - l.lo)) (l.i - l.from) l.s.0 (parts_from (l.first ++ l.second) l.list l.i (l.end - l.i)) l.state.0)
