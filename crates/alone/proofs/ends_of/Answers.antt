-- `ends_of` meets its contract: the words of the answers past those that records take have room for the lines of all ends. Assumes nothing.
use Prim.Native.Nat.{ℕ}
use native.Mathlib.Omega.{arith}
use mathlib.Core.Path.{◌≡◌}
use mathlib.Core.List.{List}
use Rattle.steps.specs.State.{State}
use Rattle.records.specs.Records.{Calls, Answers}
use Rattle.finals.specs.Finals.{CallFinals}
use Rattle.alone.proofs.ends_of.Goals as goal

-- The same call by other names.
finals_as : {calls : Calls} {answers : Answers} {a b : ℕ} {D E : State} {found : ℕ} {list list' : List ℕ} → b ≡ a → E ≡ D → CallFinals calls answers b E found list list' → CallFinals calls answers a D found list list'
finals_as e f F = rw (← e, ← f) F

pub of_call-requires : goal.of_call-requires
of_call-requires c =
    let p = c.requires in
    let long = c.close_calls.ensures.long in
    record { n_in_bounds = (omega (arith, long, p.n_in_bounds.0), p.n_in_bounds.1, omega (arith, p.m_le_most.0, p.m_le_most.2), omega (arith, p.m_le_most.0, p.m_le_most.1)); m_in_bounds = (omega (arith, p.m_le_most.0, p.m_le_most.2), p.n_in_bounds.2) }

pub returns : goal.returns
returns c =
    let goal = c.goal.ensures in
    let F = c.of_call.ensures in
    record { calls_closed = (c.close_calls.ensures, F.below.long); call_finals = finals_as goal.0 goal.1 F.call_finals }
