-- `add` meets its contract. Assumes nothing.
use Prim.Native.Nat.{ℕ, ◌+◌, ◌*◌}
use mathlib.Core.Path.{refl, sym, ap, ◌∙◌}
use lib.ListN.{set}
use lib.Seq.{set-get_or}
use borrow.Author.Rules.{rules}
use borrow.Author.Tests.{eq-eqb, ne_eqb}
use Rattle.masks.proofs.add.Goals as goal

pub returns-then-old-mask : goal.returns-then-old-mask
returns-then-old-mask c =
    let e = c.head.ensures.0 in
    record { small = search rules; put = rw e refl; told = sym (rw (← e, ne_eqb _ _ c.if-old-mask.true) refl) }

pub returns : goal.returns
returns c =
    let args = c.args in
    let at = 64 * c.head.result + args.place in
    let e = c.head.ensures.0 in
    record {
      small = search rules;
      put = rw (← e) (sym (ap (λ (v : ℕ). set args.table.now at v) c.if-old-mask.false ∙ set-get_or args.table.now at 0));
      told = sym (rw (← e, eq-eqb _ _ c.if-old-mask.false) refl);
    }
