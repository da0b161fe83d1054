-- `bad_kept` meets its contract: test by test. Assumes nothing.
use mathlib.Core.Path.{sym, ◌∙◌}
use Rattle.steps.proofs.EachBelow.{true_not_false}
use Rattle.accounts.proofs.KeptWords.{sound_by, sound_first, sound_second, sound_limits}
use Rattle.accounts.proofs.judging.bad_kept.Goals as goal

pub returns-then-kept-ne-LEDGER_WORDS : goal.returns-then-kept-ne-LEDGER_WORDS
returns-then-kept-ne-LEDGER_WORDS c = (λ e. absurd (true_not_false e), λ e s. c.if-kept-ne-LEDGER_WORDS.true s.long)

pub returns-then-bad_account : goal.returns-then-bad_account
returns-then-bad_account c = (λ e. absurd (true_not_false e), λ e s. true_not_false (sym c.if-bad_account.true ∙ c.bad_account.ensures ∙ sound_first _ _ _ _ _ s.long s))

pub returns-then-bad_account-2 : goal.returns-then-bad_account-2
returns-then-bad_account-2 c = (λ e. absurd (true_not_false e), λ e s. true_not_false (sym c.if-bad_account-2.true ∙ c.bad_account-2.ensures ∙ sound_second _ _ _ _ _ s.long s))

pub returns-then-over_rooms : goal.returns-then-over_rooms
returns-then-over_rooms c = (λ e. absurd (true_not_false e), λ e s. true_not_false (sym c.if-over_rooms.true ∙ c.over_rooms.ensures ∙ s.counts))

pub returns : goal.returns
returns c =
    let first = c.limits_of-first.ensures in
    let second = c.limits_of-second.ensures in
    let over = rw (first.calls_value, first.answers_value, second.calls_value, second.answers_value) at c.over_limits.ensures in (
      λ e. sound_by _ _ _ _ _ c.if-kept-ne-LEDGER_WORDS.false (sym c.bad_account.ensures ∙ c.if-bad_account.false)
          (sym c.bad_account-2.ensures ∙ c.if-bad_account-2.false) (sym c.over_rooms.ensures ∙ c.if-over_rooms.false) (sym over ∙ e),
      λ e s. true_not_false (sym e ∙ over ∙ sound_limits _ _ _ _ _ s.long s),
    )
