-- `take_up` meets its contract: the words in which the party holds this run's rows fit again, and the rows that they keep are left. Assumes nothing.
use Prim.Native.Nat.{◌≤◌}
use lib.ListN.{length}
use Rattle.steps.proofs.AcceptanceLaws.{start_accepted}
use Rattle.evaluator.specs.Evaluated.{asked}
use Rattle.sharing.specs.Parties.{account_of, ledger_of, party_of}
use Rattle.sharing.specs.Shared.{takes_up}
use Rattle.sharing.proofs.Entering.{Enterable, takes_up_enterable}
use Rattle.accounts.specs.Accounts.{ShortGoals}
use Rattle.panel.proofs.Fits.{fitting_short}
use Rattle.panel.proofs.Entries.{entered_fitting, left_leaves}
use Rattle.panel.proofs.leaving.take_up.Goals as goal

pub takes_up-bare-requires : goal.takes_up-bare-requires
takes_up-bare-requires c = (let short : ShortGoals c.args.kept.now × (length c.args.goal.now ≤ 16) = (fitting_short c.requires.by_index.2, (start_accepted c.requires.by_index.0 c.requires.by_index.1 c.args.rules.now c.args.goal.now c.args.start c.requires.by_index.3).0.short) in short)

pub settle_kept-left-requires : goal.settle_kept-left-requires
settle_kept-left-requires c = record { by_index = (c.requires.by_index.0, c.requires.by_index.1, entered_fitting (party_of c.args.second) (asked c.requires.by_index.0 c.requires.by_index.1 c.args.rules.now c.args.goal.now c.args.start) c.requires.by_index.2 (takes_up (account_of (ledger_of c.args.kept.now) (party_of c.args.second)) (asked c.requires.by_index.0 c.requires.by_index.1 c.args.rules.now c.args.goal.now c.args.start)) ((let entry : Enterable (asked c.requires.by_index.0 c.requires.by_index.1 c.args.rules.now c.args.goal.now c.args.start) (account_of (ledger_of c.args.kept.now) (party_of c.args.second)) (takes_up (account_of (ledger_of c.args.kept.now) (party_of c.args.second)) (asked c.requires.by_index.0 c.requires.by_index.1 c.args.rules.now c.args.goal.now c.args.start)) = takes_up_enterable (asked c.requires.by_index.0 c.requires.by_index.1 c.args.rules.now c.args.goal.now c.args.start) (account_of (ledger_of c.args.kept.now) (party_of c.args.second)) c.requires.by_index.3 c.requires.not_exceeds in entry)) c.takes_up-bare.ensures); rows_len = c.requires.rows_len }

pub takes_up-requires : goal.takes_up-requires
takes_up-requires c = (let short : ShortGoals c.args.kept.now × (length c.args.goal.now ≤ 16) = (fitting_short c.requires.by_index.2, (start_accepted c.requires.by_index.0 c.requires.by_index.1 c.args.rules.now c.args.goal.now c.args.start c.requires.by_index.3).0.short) in short)

pub returns : goal.returns
returns c =
    let s = c.settle_kept-left in
    left_leaves (party_of c.args.second) (asked c.requires.by_index.0 c.requires.by_index.1 c.args.rules.now c.args.goal.now c.args.start) c.requires.by_index.2 (takes_up (account_of (ledger_of c.args.kept.now) (party_of c.args.second)) (asked c.requires.by_index.0 c.requires.by_index.1 c.args.rules.now c.args.goal.now c.args.start)) ((let entry : Enterable (asked c.requires.by_index.0 c.requires.by_index.1 c.args.rules.now c.args.goal.now c.args.start) (account_of (ledger_of c.args.kept.now) (party_of c.args.second)) (takes_up (account_of (ledger_of c.args.kept.now) (party_of c.args.second)) (asked c.requires.by_index.0 c.requires.by_index.1 c.args.rules.now c.args.goal.now c.args.start)) = takes_up_enterable (asked c.requires.by_index.0 c.requires.by_index.1 c.args.rules.now c.args.goal.now c.args.start) (account_of (ledger_of c.args.kept.now) (party_of c.args.second)) c.requires.by_index.3 c.requires.not_exceeds in entry)) c.takes_up-bare.ensures
    s.result.calls s.result.answers s.ensures c.takes_up.ensures
