-- `clear_between` meets its contract. Assumes nothing.
use Prim.Native.Nat.{ℕ, ◌-◌, ◌<◌}
use borrow.Author.Rules.{rules}
use mathlib.Core.Path.{◌≡◌}
use lib.ListN.{get_or, take, drop}
use Rattle.std.specs.Bool.{Decides}
use Rattle.checks.proofs.ClearLaws.{window_clear}
use Rattle.checks.proofs.clear.clear_between.Goals as goal

pub returns : goal.returns
returns c =
    let a = c.args in
    let clear : Decides c.all.result ((i : ℕ) → i < a.to - a.from → get_or (take (a.to - a.from) (drop a.from a.words.now)) i 0 ≡ 0) = search rules in
    window_clear a.words.now a.from a.to _ clear
