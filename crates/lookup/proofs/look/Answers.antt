use native.Mathlib.Omega.{arith}
use mathlib.Core.Path.{sym, ◌∙◌}
use Rattle.records.specs.Records.{call_table}
use Rattle.canonical.specs.Order.{Key}
use Rattle.lookup.proofs.Comparing.{says}
use Rattle.lookup.proofs.Looking.{in_all, none_left, found_there, on_before, on_after, bad_there}
use Rattle.lookup.proofs.look.Goals as goal

pub loop-low-init : goal.loop-low-init
loop-low-init c =
    let a = c.args in
    let t = call_table a.calls.now a.count in
    let k : Key = (a.action, a.state) in
    (omega arith, omega arith, in_all t a.list.now k a.count)

pub returns-then-count-row : goal.returns-then-count-row
returns-then-count-row c =
    let a = c.args in
    let l = c.loop-low in
    let t = call_table a.calls.now a.count in
    let k : Key = (a.action, a.state) in
    sym (bad_there t a.list.now k l.low l.high c.loop-low-test.true c.if-count-row.true) ∙ l.invariant.2

pub returns-in-Equal : goal.returns-in-Equal
returns-in-Equal c =
    let a = c.args in
    let l = c.loop-low in
    let t = call_table a.calls.now a.count in
    let k : Key = (a.action, a.state) in
    let s = says t _ a.action a.state c.action_of-row_action.ensures c.state_of-row_state.ensures c.cmp.ensures c.in-Equal.is in
    sym (found_there t a.list.now k l.low l.high c.loop-low-test.true c.if-count-row.false s) ∙ l.invariant.2

pub loop-low-preserved-in-Less : goal.loop-low-preserved-in-Less
loop-low-preserved-in-Less c =
    let a = c.args in
    let l = c.loop-low in
    let t = call_table a.calls.now a.count in
    let k : Key = (a.action, a.state) in
    let (s, b) = says t _ a.action a.state c.action_of-row_action.ensures c.state_of-row_state.ensures c.cmp.ensures c.in-Less.is in
    (omega arith, omega arith, sym (on_before t a.list.now k l.low l.high c.loop-low-test.true c.if-count-row.false s b) ∙ l.invariant.2)

pub loop-low-preserved : goal.loop-low-preserved
loop-low-preserved c =
    let a = c.args in
    let l = c.loop-low in
    let t = call_table a.calls.now a.count in
    let k : Key = (a.action, a.state) in
    let (s, b) = says t _ a.action a.state c.action_of-row_action.ensures c.state_of-row_state.ensures c.cmp.ensures c.in-Greater.is in
    (omega arith, omega arith, sym (on_after t a.list.now k l.low l.high c.loop-low-test.true c.if-count-row.false s b) ∙ l.invariant.2)

pub returns : goal.returns
returns c =
    let a = c.args in
    let l = c.loop-low in
    let t = call_table a.calls.now a.count in
    let k : Key = (a.action, a.state) in
    sym (none_left t a.list.now k l.low l.high c.loop-low-test.false) ∙ l.invariant.2
