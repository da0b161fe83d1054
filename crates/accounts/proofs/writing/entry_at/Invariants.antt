-- `entry_at` meets its contract. The loop's invariant: i words of the goal are written. Assumes nothing.
use Prim.Native.Nat.{ℕ}
use mathlib.Core.Path.{◌≡◌}
use mathlib.Core.Bool.{cond}
use mathlib.Core.List.{List}
use lib.ListN.{length}
use Rattle.sharing.specs.Parties.{account_at}
use Rattle.accounts.proofs.AccountWords.{Laying}
use Rattle.accounts.proofs.writing.entry_at.Given as goal

-- j words of the goal of the account at a place are written.
abbrev pub Written : List ℕ → ℕ → ℕ → List ℕ → Type 0
Written kept at j words = let a = account_at kept at in Laying a.call_limit a.answer_limit (cond a.holds 1 0) a.start (length a.goal) a.goal j words

abbrev pub invariant-loop-i : goal.invariant-loop-i
invariant-loop-i l = (l.count ≡ length (account_at l.kept l.at).goal) × Written l.kept l.at l.i l.words
