-- `settle_kept` meets its contract: the goals read are those kept, they are accepted, and their rows fit. Assumes nothing.
use native.Mathlib.Omega.{arith}
use mathlib.Core.Path.{sym, ap, subst, ◌∙◌}
use lib.Seq.{length-take-le}
use Rattle.steps.proofs.AcceptanceLaws.{AcceptedWords}
use Rattle.sharing.specs.Parties.{first, second, Account, account_of}
use Rattle.accounts.proofs.KeptWords.{first_placed, second_placed}
use Rattle.panel.proofs.Fits.{fitting_accepted, first_read, second_read, settled_fits, settled_left}
use Rattle.panel.proofs.leaving.settle_kept.Goals as goal

pub slice_bounds-first-end : goal.slice_bounds-first-end
slice_bounds-first-end c = omega (arith, (first_read c.requires.by_index.2 c.goal_into-n.ensures).0, c.goal_into-n.ensures.long)

pub slice_bounds-settle-end : goal.slice_bounds-settle-end
slice_bounds-settle-end c = sym (length-take-le _ _ (omega (arith, (first_read c.requires.by_index.2 c.goal_into-n.ensures).0, c.goal_into-n.ensures.long)))

pub slice_bounds-second-end : goal.slice_bounds-second-end
slice_bounds-second-end c = omega (arith, (second_read c.requires.by_index.2 c.goal_into-m.ensures).0, c.goal_into-m.ensures.long)

pub slice_bounds-settle-end-2 : goal.slice_bounds-settle-end-2
slice_bounds-settle-end-2 c = sym (length-take-le _ _ (omega (arith, (second_read c.requires.by_index.2 c.goal_into-m.ensures).0, c.goal_into-m.ensures.long)))

pub settle-settled-requires : goal.settle-settled-requires
unfolding account_of
settle-settled-requires c =
    let (fluents, actions, fits) = c.requires.by_index in
    let taken = AcceptedWords fluents actions c.args.rules.now in
    record {
      accepted = (
        fluents,
        actions,
        subst taken (sym (first_read fits c.goal_into-n.ensures).1) (fitting_accepted fits first),
        subst taken (sym (second_read fits c.goal_into-m.ensures).1) (fitting_accepted fits second),
      );
      rows_len = (c.requires.rows_len, omega (arith, c.room_of-most.ensures), omega (arith, c.room_of-most.ensures));
    }

pub unreachable-requires : goal.unreachable-requires
unreachable-requires c =
    let fits = c.requires.by_index.2 in
    let own = first_placed c.args.kept.now fits.long in
    let other = second_placed c.args.kept.now fits.long in
    settled_fits fits 0 0
    (c.holds.ensures ∙ ap (λ (a : Account). a.holds) (sym own))
    (c.holds-2.ensures ∙ ap (λ (a : Account). a.holds) (sym other))
    (first_read fits c.goal_into-n.ensures).1
    (second_read fits c.goal_into-m.ensures).1
    (c.start-start.ensures ∙ ap (λ (a : Account). a.start) (sym own))
    (c.start-second_start.ensures ∙ ap (λ (a : Account). a.start) (sym other))
    c.room_of-most.ensures
    c.in-Err.ensures

pub returns : goal.returns
returns c =
    let fits = c.requires.by_index.2 in
    let own = first_placed c.args.kept.now fits.long in
    let other = second_placed c.args.kept.now fits.long in
    settled_left fits c.in-Ok.left.calls c.in-Ok.left.answers
    (c.holds.ensures ∙ ap (λ (a : Account). a.holds) (sym own))
    (c.holds-2.ensures ∙ ap (λ (a : Account). a.holds) (sym other))
    (first_read fits c.goal_into-n.ensures).1
    (second_read fits c.goal_into-m.ensures).1
    (c.start-start.ensures ∙ ap (λ (a : Account). a.start) (sym own))
    (c.start-second_start.ensures ∙ ap (λ (a : Account). a.start) (sym other))
    c.room_of-most.ensures
    c.in-Ok.ensures
