-- `give_up` meets its contract: the words in which the party holds no rows fit again, and the rows that they keep are left. Assumes nothing.
use mathlib.Core.List.{[]}
use Rattle.evaluator.specs.Evaluated.{asked}
use Rattle.sharing.specs.Parties.{account_of, ledger_of, party_of}
use Rattle.sharing.specs.Shared.{gives_up}
use Rattle.sharing.proofs.Entering.{gives_up_enterable}
use Rattle.panel.proofs.Fits.{fitting_short}
use Rattle.panel.proofs.Entries.{entered_fitting, left_leaves}
use Rattle.panel.proofs.leaving.give_up.Goals as goal

pub gives_up-bare-requires : goal.gives_up-bare-requires
gives_up-bare-requires c = fitting_short c.requires.by_index.2

pub settle_kept-left-requires : goal.settle_kept-left-requires
settle_kept-left-requires c = record { by_index = (c.requires.by_index.0, c.requires.by_index.1, entered_fitting (party_of c.args.second) (asked c.requires.by_index.0 c.requires.by_index.1 c.args.rules.now [] 0) c.requires.by_index.2 (gives_up (account_of (ledger_of c.args.kept.now) (party_of c.args.second))) (gives_up_enterable (asked c.requires.by_index.0 c.requires.by_index.1 c.args.rules.now [] 0) (account_of (ledger_of c.args.kept.now) (party_of c.args.second))) c.gives_up-bare.ensures); rows_len = c.requires.rows_len }

pub gives_up-requires : goal.gives_up-requires
gives_up-requires c = fitting_short c.requires.by_index.2

pub returns : goal.returns
returns c =
    let s = c.settle_kept-left in
    left_leaves (party_of c.args.second) (asked c.requires.by_index.0 c.requires.by_index.1 c.args.rules.now [] 0) c.requires.by_index.2 (gives_up (account_of (ledger_of c.args.kept.now) (party_of c.args.second))) (gives_up_enterable (asked c.requires.by_index.0 c.requires.by_index.1 c.args.rules.now [] 0) (account_of (ledger_of c.args.kept.now) (party_of c.args.second))) c.gives_up-bare.ensures
    s.result.calls s.result.answers s.ensures c.gives_up.ensures
