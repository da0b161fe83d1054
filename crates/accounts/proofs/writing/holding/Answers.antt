use native.Mathlib.Omega.{arith}
use mathlib.Core.Path.{◌≡◌, refl}
use lib.ListN.{length}
use Rattle.sharing.specs.Parties.{account_words}
use Rattle.accounts.proofs.AccountWords.{laid_none, laid_more, laid_all}
use Rattle.accounts.proofs.writing.holding.Goals as goal

pub returns : goal.returns
unfolding account_words
returns c =
    let l = c.loop-i in
    let e : l.i ≡ length c.args.goal.now = omega arith in
    laid_all (omega arith) (rw e at l.invariant)
