-- `add_new` meets its contract: the call is added as one record more and noted, or there is no room. Assumes nothing.
use Rattle.index.proofs.Additions.{call_more_open, call_more_index}
use Rattle.index.proofs.add_new.Goals as goal

pub returns-then-n-most-clause-calls_open_2 : goal.returns-then-n-most-clause-calls_open_2
returns-then-n-most-clause-calls_open_2 c =
    let p = c.requires.calls_open in
    let a = c.args.call in
    let e = c.room_of-most.ensures in
    let few = c.if-n-most.true in
    let z = c.put_call.ensures in
    let n = c.note.ensures in
    (call_more_open a.state.0 p.0 p.2 p.3 few e z n, call_more_index a.state.0 p.0 p.2 p.3 few e z n p.1 c.bucket.ensures.value)
