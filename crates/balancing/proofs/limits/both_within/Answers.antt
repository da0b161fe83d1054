-- `both_within` meets its contract: the first party, then the second. Assumes nothing.
use Prim.Native.Nat.{ℕ}
use native.Mathlib.Omega.{arith}
use mathlib.Core.Path.{subst, ◌∙◌}
use mathlib.Core.Logic.{inl}
use borrow.Author.Rules.{rules}
use borrow.Author.Tests.{not-true, not-false}
use Rattle.sharing.specs.Parties.{account_at}
use Rattle.balancing.specs.Balancing.{Sized}
use Rattle.balancing.proofs.PutAside.{handed_again, lent_again, rooms_again}
use Rattle.balancing.proofs.OwnLimits.{both_sized}
use Rattle.balancing.proofs.limits.both_within.Goals as goal

pub within-requires : goal.within-requires
within-requires c =
    let p = c.requires in
    let (fluents, actions, acc, acc') = p.accepted.0 in
    record { accepted = ((fluents, actions, acc, acc), omega (arith, p.accepted.1), p.accepted.2); lent = p.lent }

pub returns-then-not-within : goal.returns-then-not-within
returns-then-not-within c =
    let w = c.within in
    record { calls_unchanged = w.ensures.calls_unchanged; rows_len_unchanged = w.ensures.rows_len_unchanged; both_sized = inl (subst (Sized _ _ _ _ _ _) (not-true w.result c.if-not-within.true-raw) w.ensures.sized) }

pub within-requires-2 : goal.within-requires-2
within-requires-2 c =
    let p = c.requires in
    let w = c.within.ensures in
    let (fluents, actions, acc, acc') = p.accepted.0 in record { accepted = ((fluents, actions, acc', acc'), omega (arith, p.accepted.1), p.accepted.3); lent = (lent_again w.rows_len_unchanged.0 w.rows_len_unchanged.1 w.calls_unchanged.0 p.lent.0, handed_again w.calls_unchanged.0 w.calls_unchanged.1 p.lent.1) }

pub returns : goal.returns
returns c =
    let w = c.within in
    let v = c.within-2 in
    let x = w.ensures in
    let y = v.ensures in record {
      calls_unchanged = (y.calls_unchanged.0 ∙ x.calls_unchanged.0, y.calls_unchanged.1 ∙ x.calls_unchanged.1);
      rows_len_unchanged = (y.rows_len_unchanged.0 ∙ x.rows_len_unchanged.0, y.rows_len_unchanged.1 ∙ x.rows_len_unchanged.1);
      both_sized = both_sized v.result (subst (Sized _ _ _ _ _ _) (not-false w.result c.if-not-within.false-raw) x.sized)
          (rooms_again (λ (j k : ℕ). Sized c.args.rules.now (account_at c.args.kept.now 21) j k c.args.n c.args.m v.result) x.calls_unchanged.0 x.calls_unchanged.1 y.sized);
    }
