-- `share_path` meets its contract: words that are not 44 keep nothing, and else both goals are read. Assumes nothing.
use lib.ListN.{replicate}
use Rattle.accounts.proofs.KeptWords.{first_placed, second_placed}
use Rattle.tracing.proofs.TracedLaws.{unkept_fault, refused}
use Rattle.tracing.proofs.share_path.Goals as goal

pub returns-then-kept-ne-LEDGER_WORDS : goal.returns-then-kept-ne-LEDGER_WORDS
returns-then-kept-ne-LEDGER_WORDS c =
    let a = c.args in
    let (told, some) = unkept_fault a.fluents a.actions a.rules.now a.kept.now a.calls.now a.answers.now c.if-kept-ne-LEDGER_WORDS.true a.«record» in
    rw (c.refused.ensures.0, c.refused.ensures.1, c.unkept.ensures) (refused a.fluents a.actions a.rules.now a.kept.now a.calls.now a.answers.now a.«record» a.states.now _ told some)

pub judge-requires : goal.judge-requires
judge-requires c =
    let words = c.args.kept.now in
    let long = c.if-kept-ne-LEDGER_WORDS.false in
    record {
      long = long;
      first_long = c.goal_into-n.ensures.long;
      first_held = replicate 16 0;
      first_read = rw (first_placed words long) c.goal_into-n.ensures;
      second_long = c.goal_into-m.ensures.long;
      second_held = replicate 16 0;
      second_read = rw (second_placed words long) c.goal_into-m.ensures;
    }
