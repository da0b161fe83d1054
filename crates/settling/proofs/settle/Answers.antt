-- `settle` meets its contract: the rows that a run leaves are given, or a table is full. Assumes nothing.
use Prim.Native.Nat.{ℕ, ◌≤◌}
use native.Mathlib.Omega.{arith}
use mathlib.Core.Path.{◌≡◌, refl, sym, ◌∙◌}
use mathlib.Core.Bool.{true, false}
use mathlib.Core.List.{List, ◌++◌}
use lib.ListN.{length, take, drop, length-drop, length-append}
use lib.Seq.{length-take-le}
use Rattle.steps.proofs.EachBelow.{true_not_false}
use Rattle.records.specs.Records.{room, call_width}
use Rattle.records.specs.Bodies.{bodies_with}
use Rattle.records.proofs.Numbers.{proper_with}
use Rattle.tabling.proofs.Evidence.{Among}
use Rattle.tabling.proofs.Adding.{Outgrown}
use Rattle.stowing.specs.Stowing.{call_words}
use Rattle.joint.specs.Joint.{roots_of}
use Rattle.settling.proofs.Settled.{given_whole}
use Rattle.std.proofs.lemmas.Result.{err_from_is_err_and}
use Rattle.settling.proofs.settle.Goals as goal

-- the part of the call table that is lent
room_in : (len k : ℕ) → k ≡ room call_words len → k ≤ len
room_in len k e = omega (arith, e)

-- The call table keeps its length where that part comes back as long as it was.
part_back : (list calls : List ℕ) (k : ℕ) → k ≡ room call_words (length calls) → length list ≡ length (take k calls) → length (list ++ drop k calls) ≡ length calls
part_back list calls k e same =
    let within : k ≤ length calls = room_in (length calls) k e in
    omega (arith, length-append list (drop k calls), length-take-le k calls within, length-drop k calls)

pub slice_bounds-fill_rows-end-2 : goal.slice_bounds-fill_rows-end-2
slice_bounds-fill_rows-end-2 c =
    let r = c.room_of-room in
    sym (length-take-le r.result c.args.calls.now (room_in (length c.args.calls.now) r.result r.ensures))

pub fill_rows-requires : goal.fill_rows-requires
fill_rows-requires c =
    let r = c.room_of-room in
    let p = c.requires.rows_len in
    record { accepted = c.requires.accepted; calls_in_bounds = (omega (arith, p.0, r.ensures, length-take-le r.result c.args.calls.now (room_in (length c.args.calls.now) r.result r.ensures)), p.1, omega (arith, p.2)) }

pub returns-in_err-filled : goal.returns-in_err-filled
returns-in_err-filled c =
    let p = err_from_is_err_and c.from_residual.result c.from_residual.ensures.1 in
    let F = c.in_err-filled.ensures in
    let calls_long = part_back c.fill_rows.new.list c.args.calls.now c.room_of-room.result c.room_of-room.ensures F.list_long in
    let rooms : room call_width (length c.args.rows.now) ≡ room call_words (length c.args.calls.now) = omega (arith, c.requires.rows_len.0) in
    rw (p.1, p.2) record {
      calls_long = calls_long;
      answers_long = F.answers_long;
      calls_fit = λ e. absurd (true_not_false e);
      answers_fit = λ e. absurd (true_not_false e);
      whole = λ e. absurd (true_not_false e);
      calls_past = λ e. absurd (true_not_false e);
      answers_past = λ e. absurd (true_not_false e);
      outgrown = λ e. rw rooms at (F.outgrown refl);
    }

pub give_calls-requires : goal.give_calls-requires
give_calls-requires c =
    let F = c.in_ok-filled.ensures in
    let calls_long = part_back c.fill_rows.new.list c.args.calls.now c.room_of-room.result c.room_of-room.ensures F.list_long in
    let k = (F.kept refl).calls_open.stored in
    (k.fits, omega (arith, k.fits, k.most, F.calls_long, c.requires.rows_len.0, calls_long))

pub give_answers-requires : goal.give_answers-requires
give_answers-requires c =
    let F = c.in_ok-filled.ensures in
    let k = (F.kept refl).answers_open in
    record { few = k.fits; fits = rw F.answers_long c.requires.rows_len.2; bound = k.small }

pub returns : goal.returns
returns c =
    let F = c.in_ok-filled.ensures in
    let calls_long = part_back c.fill_rows.new.list c.args.calls.now c.room_of-room.result c.room_of-room.ensures F.list_long in
    let k = (F.kept refl).calls_open.stored in
    let g = c.give_calls.ensures in
    let h = c.give_answers.ensures in
    let (fluents, actions, acc, acc') = c.requires.accepted in
    record {
      calls_long = g.long ∙ calls_long;
      answers_long = h.long ∙ F.answers_long;
      calls_fit = λ _. omega (arith, k.fits, k.most, F.calls_long, c.requires.rows_len.0);
      answers_fit = λ _. (F.kept refl).answers_open.fits;
      whole = λ _. given_whole c.fill_rows.new.calls c.in_ok-filled.filled.calls c.in_ok-filled.filled.answers
          (proper_with c.args.rules.now c.args.goals.first c.args.goals.second c.args.goal.now c.args.second.now acc acc') (F.whole refl) g h;
      calls_past = λ _. g.past;
      answers_past = λ _. h.past;
      outgrown = λ z. absurd (true_not_false (sym z));
    }
