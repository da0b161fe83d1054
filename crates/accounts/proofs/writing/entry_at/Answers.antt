use native.Mathlib.Omega.{arith}
use mathlib.Core.Path.{◌≡◌, sym}
use lib.ListN.{length}
use Rattle.sharing.specs.Parties.{account_words, account_at}
use Rattle.accounts.proofs.AccountWords.{count_few, laid_none, laid_more, laid_all}
use Rattle.accounts.proofs.writing.entry_at.Goals as goal

pub returns : goal.returns
unfolding account_words
returns c =
    let l = c.loop-i in
    let a = c.args in
    let e : l.i ≡ length (account_at a.kept.now a.at).goal = omega arith in
    laid_all (omega arith) (rw e at l.invariant.1)
