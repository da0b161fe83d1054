-- `turn` meets its contract. Assumes nothing.
use Rattle.steps.proofs.StateLaws.{one_shl}
use Rattle.marking.proofs.Turning.{turned_skip, turned_same, turned_more}
use Rattle.marking.proofs.passes.turn.Goals as goal
use Rattle.marking.proofs.passes.turn.Goals.{else-stale-via-then-stale+else-widen, else-stale-via-else-stale}

pub stale-requires : goal.stale-requires
stale-requires c = let pre = c.requires in rw c.rule_steps.ensures (pre.3.good _ pre.2)

pub returns-then-widen : goal.returns-then-widen
returns-then-widen c before t =
    let pre = c.requires in
    rw (one_shl _ c.head.ensures.1, c.head.ensures.0) (turned_more _ _ _ _ pre.3 pre.1 pre.2 t pre.0 c.widen.ensures c.if-widen.true)

pub returns : goal.returns
returns c before t =
    let pre = c.requires in
    elim c.else-stale.branch [
      | else-stale-via-then-stale+else-widen w ↦ rw w.table-is (turned_same _ _ _ _ pre.3 pre.1 pre.2 t pre.0 w.widen.ensures w.if-widen.false)
      | else-stale-via-else-stale w ↦
          let (ne, none) = c.stale.ensures w.if-stale.false in
          rw w.table-is (turned_skip _ _ _ _ pre.3 pre.1 pre.2 t ne (rw c.rule_steps.ensures at none))
    ]
