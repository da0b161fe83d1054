-- `unstow_calls` meets its contract. The loop's invariant: the first i records are given. Assumes nothing.
use Prim.Native.Nat.{ℕ, ◌+◌}
use lib.ListN.{get_or}
use Rattle.stowing.proofs.CallStows.{CallsLaying}
use Rattle.stowing.proofs.unstow_calls.Given as goal

abbrev pub invariant-loop-i : goal.invariant-loop-i
invariant-loop-i l = CallsLaying l.i (λ (j : ℕ). get_or l.actions j 0) (λ (j : ℕ). get_or l.initial.calls (l.most + j) 0) l.initial.calls l.calls
