-- `bad_goal` meets its contract. The loop's invariant: the steps passed are good. Assumes nothing.
use Prim.Native.Nat.{◌≤◌}
use mathlib.Core.Path.{◌≡◌}
use mathlib.Core.Bool.{true}
use lib.ListN.{length, get_or}
use Rattle.steps.specs.Acceptance.{each_below, good_step}
use Rattle.sharing.specs.Parties.{account_at}
use Rattle.accounts.proofs.judging.bad_goal.Given as goal

abbrev pub invariant-loop-i : goal.invariant-loop-i
invariant-loop-i l = (l.count ≤ 16) × (length (account_at l.kept l.at).goal ≡ l.count) × (each_below l.i (λ j. good_step l.fluents l.actions (get_or (account_at l.kept l.at).goal j 0)) ≡ true)
