-- `list_short` meets its contract: the places, the first state, and the rest. Assumes nothing.
use Rattle.std.specs.Prelude.{Some}
use Prim.Native.Nat.{ℕ, suc, ◌≤◌}
use native.Mathlib.Omega.{arith}
use mathlib.Core.Path.{ap, ◌∙◌}
use mathlib.Core.List.{◌∷◌}
use borrow.Author.Tests.{le-ltb}
use lib.ListN.{length, length-set}
use Rattle.unfolding.proofs.Walk.{lent, start_at, added_by}
use Rattle.unfolding.proofs.Sizes.{sized_less}
use Rattle.unfolding.proofs.Writing.{whole}
use Rattle.path.proofs.list.list_short.Goals as goal

pub place_all-requires : goal.place_all-requires
place_all-requires c =
    let p = c.requires in (
      record {
        checked = p.0;
        sizes_long = p.3;
        offsets_long = omega (arith, p.6.long, p.0.readable.most);
        empty = p.6.zero_at;
        cap = c.args.most;
        small = omega (arith, p.2);
        sized = p.4;
        room = p.5;
      },
      omega (arith, p.5, p.2),
    )

pub write_all-requires : goal.write_all-requires
write_all-requires c =
    let p = c.requires in
    let a = c.args in
    let it = lent a.plain a.rules.now a.goal.now a.second.now a.calls.now a.answers.now in
    let placed = c.place_all.ensures in
    record {
      checked = p.0;
      sizes_long = omega (arith, p.3);
      offsets_long = omega (arith, placed.0, p.6.long, p.0.readable.most);
      wanted = start_at it a.asked ∷ added_by it a.asked;
      fits = rw length-set (omega (arith, p.5, p.1));
      laid = placed.1;
      cap = a.most;
      small = omega (arith, p.2);
      wide = omega (arith, p.5);
      sized = sized_less (omega arith) p.4;
    }

pub overflow_add-result : goal.overflow_add-result
overflow_add-result c = omega (arith, c.get.ensures, c.requires.4.at c.args.asked (omega arith), c.requires.2)

pub shape_of-states : goal.shape_of-states
shape_of-states c = c.write_all.ensures.long ∙ length-set c.args.states.now 0 c.start.result

pub returns : goal.returns
returns c =
    let p = c.requires in
    let a = c.args in
    let it = lent a.plain a.rules.now a.goal.now a.second.now a.calls.now a.answers.now in
    let room : suc (length (added_by it a.asked)) ≤ a.most = omega (arith, p.5) in
    record {
      the_count = rw (le-ltb _ _ room) (ap (λ (n : ℕ). Some n) (omega (arith, c.get.ensures, p.4.at a.asked (omega arith), p.5)));
      the_list = rw (le-ltb _ _ room) (whole it _ a.asked a.states.now _ (omega (arith, room, p.1)) c.place_all.ensures.1 (rw c.start.ensures at c.write_all.ensures));
    }
