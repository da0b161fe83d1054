-- `enter` meets its contract, by how the call and its first answer come out. Assumes nothing.
use Prim.Native.Nat.{ℕ, ◌%◌, ◌<◌}
use native.Mathlib.Omega.{arith}
use mathlib.Core.Path.{◌≡◌, refl, ◌∙◌}
use mathlib.Core.Bool.{true, false}
use mathlib.Core.List.{List}
use lib.ListN.{length, get_or, set}
use lib.Seq.{get_or-set_other}
use Rattle.steps.specs.Inner.{is_call}
use Rattle.records.specs.Records.{Bodies, room, call_width}
use Rattle.records.specs.Storage.{CallPut}
use Rattle.records.proofs.Growth.{Tables}
use Rattle.desk.specs.Desk.{open_calls, mark_words}
use Rattle.marks.specs.Marks.{Stamped}
use Rattle.uses.specs.Uses.{uses_in}
use Rattle.uses.proofs.UsesLaws.{uses_trans}
use Rattle.uses.proofs.NoteLaws.{alone_marks}
use Rattle.tabling.proofs.Evidence.{Among}
use Rattle.tabling.proofs.Measure.{left_on}
use Rattle.invariants.proofs.Turn.{Begin, Turning, turn_calls_full}
use Rattle.invariants.proofs.Going.{in_words}
use Rattle.invariants.proofs.Frames.{uses_same, stamped_in, put_inside, called_marks, called_uses, called_index, noted_kept, noted_indexed, marked_uses, marked_kept, marked_indexed}
use Rattle.invariants.proofs.Frames.{Facing, faced, faced_seen, faced_none, faced_take}
use Rattle.search.specs.Leaving.{Stays, spot_of, past_of}
use Rattle.search.proofs.enter.Goals as goal

pub returns-then-put : goal.returns-then-put
returns-then-put c =
    let j = c.args.job in record {
      stays = (
        (let put_stays : (k : ℕ) → k ≡ c.add_call-put.result.count → Stays c.args.job.most c.args.calls.now c.args.list.now c.args.answers.now c.add_call-put.new.calls c.add_call-put.new.list k
            c.args.answers.now c.args.m = (λ k e. rw e ((let stays_put : Stays c.args.job.most c.args.calls.now c.args.list.now c.args.answers.now c.add_call-put.new.calls c.add_call-put.new.list c.add_call-put.result.count
            c.args.answers.now c.args.m = let x = c.add_call-put.ensures in
            record {
              calls_long = x.calls_kept.long;
              list_long = x.calls_kept.list_long;
              answers_long = refl;
              kept = record { calls_open = x.calls_open.0; answers_open = c.requires.0.answers_open };
              indexed = record { of_calls = x.calls_open.1; of_answers = called_index x.calls_kept c.requires.1.of_answers };
              uses_more = uses_same (called_uses x.calls_kept);
            } in stays_put))) in put_stays) _ (omega arith),
        refl,
      );
      stepped = λ bodies roots b begun body h e z d T. turn_calls_full bodies (Among roots) b j.known j.rule j.row j.walk (past_of j begun) body T h e j.most ((let put_at : (a : ℕ) → a ≡ c.args.step
          → CallPut (room call_width (length c.args.calls.now)) (open_calls c.args.calls.now c.args.n) (a % 256)
          c.args.spot.state.0 c.args.job.round (open_calls c.add_call-put.new.calls c.add_call-put.result.count) c.add_call-put.result.row c.add_call-put.result.full = (λ a z. rw (z, ← c.index.ensures) c.add_call-put.ensures.call_put) in put_at) _ z) c.if-put.true;
    }

pub note-requires : goal.note-requires
note-requires c =
    let o = c.add_call-put.ensures.calls_open.0.stored in
    let f = c.if-put.false in
    (omega (arith, o.fits, (let row_in : c.add_call-put.result.full ≡ false → c.add_call-put.result.row < c.add_call-put.result.count = (λ f. put_inside c.add_call-put.ensures.call_put f) in row_in) f), (let row_small : c.add_call-put.result.full ≡ false → c.add_call-put.result.row < 65536 = (λ f. omega (arith, c.add_call-put.ensures.calls_open.0.stored.most, (let row_in : c.add_call-put.result.full ≡ false → c.add_call-put.result.row < c.add_call-put.result.count = (λ f. put_inside c.add_call-put.ensures.call_put f) in row_in) f)) in row_small) f, omega (arith, c.requires.0.calls_open.stored.most, c.requires.5))

pub is_marked-requires : goal.is_marked-requires
is_marked-requires c = (
  (let stamped : Stamped (mark_words c.note.new.calls) c.args.job.walk = stamped_in (alone_marks c.note.ensures.uses_alone ∙ called_marks c.add_call-put.ensures.calls_kept) c.requires.2 in stamped),
  omega (
    arith,
    ((let stays_noted : Stays c.args.job.most c.args.calls.now c.args.list.now c.args.answers.now c.note.new.calls c.add_call-put.new.list
        c.add_call-put.result.count c.args.answers.now c.args.m = let s = (let stays_put : Stays c.args.job.most c.args.calls.now c.args.list.now c.args.answers.now c.add_call-put.new.calls c.add_call-put.new.list c.add_call-put.result.count
        c.args.answers.now c.args.m = let x = c.add_call-put.ensures in
        record {
          calls_long = x.calls_kept.long;
          list_long = x.calls_kept.list_long;
          answers_long = refl;
          kept = record { calls_open = x.calls_open.0; answers_open = c.requires.0.answers_open };
          indexed = record { of_calls = x.calls_open.1; of_answers = called_index x.calls_kept c.requires.1.of_answers };
          uses_more = uses_same (called_uses x.calls_kept);
        } in stays_put) in
        let a = c.note.ensures.uses_alone in
        record {
          calls_long = a.long ∙ s.calls_long;
          list_long = s.list_long;
          answers_long = refl;
          kept = noted_kept a (omega (arith, (let row_in : c.add_call-put.result.full ≡ false → c.add_call-put.result.row < c.add_call-put.result.count = (λ f. put_inside c.add_call-put.ensures.call_put f) in row_in) c.if-put.false)) s.kept;
          indexed = noted_indexed a s.indexed;
          uses_more = uses_trans s.uses_more (c.note.ensures.by_index c.add_call-put.new.list).grew;
        } in stays_noted)).kept.calls_open.stored.fits,
    (let row_in : c.add_call-put.result.full ≡ false → c.add_call-put.result.row < c.add_call-put.result.count = (λ f. put_inside c.add_call-put.ensures.call_put f) in row_in) c.if-put.false,
  ),
  c.requires.3,
)

pub returns-then-is_marked : goal.returns-then-is_marked
returns-then-is_marked c =
    let j = c.args.job in record {
      stays = (
        (let stays_noted : Stays c.args.job.most c.args.calls.now c.args.list.now c.args.answers.now c.note.new.calls c.add_call-put.new.list
            c.add_call-put.result.count c.args.answers.now c.args.m = let s = (let stays_put : Stays c.args.job.most c.args.calls.now c.args.list.now c.args.answers.now c.add_call-put.new.calls c.add_call-put.new.list c.add_call-put.result.count
            c.args.answers.now c.args.m = let x = c.add_call-put.ensures in
            record {
              calls_long = x.calls_kept.long;
              list_long = x.calls_kept.list_long;
              answers_long = refl;
              kept = record { calls_open = x.calls_open.0; answers_open = c.requires.0.answers_open };
              indexed = record { of_calls = x.calls_open.1; of_answers = called_index x.calls_kept c.requires.1.of_answers };
              uses_more = uses_same (called_uses x.calls_kept);
            } in stays_put) in
            let a = c.note.ensures.uses_alone in
            record {
              calls_long = a.long ∙ s.calls_long;
              list_long = s.list_long;
              answers_long = refl;
              kept = noted_kept a (omega (arith, (let row_in : c.add_call-put.result.full ≡ false → c.add_call-put.result.row < c.add_call-put.result.count = (λ f. put_inside c.add_call-put.ensures.call_put f) in row_in) c.if-put.false)) s.kept;
              indexed = noted_indexed a s.indexed;
              uses_more = uses_trans s.uses_more (c.note.ensures.by_index c.add_call-put.new.list).grew;
            } in stays_noted),
        refl,
      );
      stepped = λ bodies roots b begun body h e z d T. (
        faced_seen bodies (Among roots) b j.known j.rule j.row j.walk (past_of j begun) body ((let facing : (bodies : Bodies) (roots : List (ℕ × ℕ)) (b : Tables) (begun : Begin) (body : List ℕ) → c.args.at < length body → is_call (get_or body c.args.at 0) ≡ true → get_or body c.args.at 0 ≡ c.args.step
            → Turning bodies (Among roots) b c.args.job.known c.args.job.rule c.args.job.row c.args.job.walk (past_of c.args.job begun) body
            (in_words c.args.calls.now c.args.n c.args.answers.now c.args.m) (mark_words c.args.calls.now) (uses_in c.args.calls.now c.args.list.now) c.args.chosen.now c.args.at (spot_of c.args.spot)
            → Facing bodies (Among roots) b c.args.job.known c.args.job.rule c.args.job.row c.args.job.walk (past_of c.args.job begun) body
            c.note.new.calls c.add_call-put.new.list c.add_call-put.result.count c.args.answers.now c.args.m c.args.chosen.now c.args.at (spot_of c.args.spot) c.add_call-put.result.row = (λ bodies roots b begun body h e z T. faced bodies (Among roots) b c.args.job.known c.args.job.rule c.args.job.row c.args.job.walk (past_of c.args.job begun) body T h e ((let put_at : (a : ℕ) → a ≡ c.args.step
            → CallPut (room call_width (length c.args.calls.now)) (open_calls c.args.calls.now c.args.n) (a % 256)
            c.args.spot.state.0 c.args.job.round (open_calls c.add_call-put.new.calls c.add_call-put.result.count) c.add_call-put.result.row c.add_call-put.result.full = (λ a z. rw (z, ← c.index.ensures) c.add_call-put.ensures.call_put) in put_at) _ z) c.if-put.false
            c.add_call-put.ensures.calls_kept c.note.ensures.uses_alone (c.note.ensures.by_index c.add_call-put.new.list)) in facing) bodies roots b begun body h e z T) (rw c.if-is_marked.true at c.is_marked.ensures),
        refl,
      );
    }

pub mark-requires : goal.mark-requires
mark-requires c = (
  (let stamped : Stamped (mark_words c.note.new.calls) c.args.job.walk = stamped_in (alone_marks c.note.ensures.uses_alone ∙ called_marks c.add_call-put.ensures.calls_kept) c.requires.2 in stamped),
  omega (
    arith,
    ((let stays_noted : Stays c.args.job.most c.args.calls.now c.args.list.now c.args.answers.now c.note.new.calls c.add_call-put.new.list
        c.add_call-put.result.count c.args.answers.now c.args.m = let s = (let stays_put : Stays c.args.job.most c.args.calls.now c.args.list.now c.args.answers.now c.add_call-put.new.calls c.add_call-put.new.list c.add_call-put.result.count
        c.args.answers.now c.args.m = let x = c.add_call-put.ensures in
        record {
          calls_long = x.calls_kept.long;
          list_long = x.calls_kept.list_long;
          answers_long = refl;
          kept = record { calls_open = x.calls_open.0; answers_open = c.requires.0.answers_open };
          indexed = record { of_calls = x.calls_open.1; of_answers = called_index x.calls_kept c.requires.1.of_answers };
          uses_more = uses_same (called_uses x.calls_kept);
        } in stays_put) in
        let a = c.note.ensures.uses_alone in
        record {
          calls_long = a.long ∙ s.calls_long;
          list_long = s.list_long;
          answers_long = refl;
          kept = noted_kept a (omega (arith, (let row_in : c.add_call-put.result.full ≡ false → c.add_call-put.result.row < c.add_call-put.result.count = (λ f. put_inside c.add_call-put.ensures.call_put f) in row_in) c.if-put.false)) s.kept;
          indexed = noted_indexed a s.indexed;
          uses_more = uses_trans s.uses_more (c.note.ensures.by_index c.add_call-put.new.list).grew;
        } in stays_noted)).kept.calls_open.stored.fits,
    (let row_in : c.add_call-put.result.full ≡ false → c.add_call-put.result.row < c.add_call-put.result.count = (λ f. put_inside c.add_call-put.ensures.call_put f) in row_in) c.if-put.false,
  ),
  c.requires.3,
  rw c.if-is_marked.false at c.is_marked.ensures,
)

pub first_of-first-requires : goal.first_of-first-requires
first_of-first-requires c =
    let s = (let stays_marked : Stays c.args.job.most c.args.calls.now c.args.list.now c.args.answers.now c.mark.new.calls c.add_call-put.new.list
    c.add_call-put.result.count c.args.answers.now c.args.m = let s = (let stays_noted : Stays c.args.job.most c.args.calls.now c.args.list.now c.args.answers.now c.note.new.calls c.add_call-put.new.list
    c.add_call-put.result.count c.args.answers.now c.args.m = let s = (let stays_put : Stays c.args.job.most c.args.calls.now c.args.list.now c.args.answers.now c.add_call-put.new.calls c.add_call-put.new.list c.add_call-put.result.count
    c.args.answers.now c.args.m = let x = c.add_call-put.ensures in
    record {
      calls_long = x.calls_kept.long;
      list_long = x.calls_kept.list_long;
      answers_long = refl;
      kept = record { calls_open = x.calls_open.0; answers_open = c.requires.0.answers_open };
      indexed = record { of_calls = x.calls_open.1; of_answers = called_index x.calls_kept c.requires.1.of_answers };
      uses_more = uses_same (called_uses x.calls_kept);
    } in stays_put) in
    let a = c.note.ensures.uses_alone in
    record {
      calls_long = a.long ∙ s.calls_long;
      list_long = s.list_long;
      answers_long = refl;
      kept = noted_kept a (omega (arith, (let row_in : c.add_call-put.result.full ≡ false → c.add_call-put.result.row < c.add_call-put.result.count = (λ f. put_inside c.add_call-put.ensures.call_put f) in row_in) c.if-put.false)) s.kept;
      indexed = noted_indexed a s.indexed;
      uses_more = uses_trans s.uses_more (c.note.ensures.by_index c.add_call-put.new.list).grew;
    } in stays_noted) in
    let a = c.mark.ensures.marks_alone in
    record {
      calls_long = a.long ∙ s.calls_long;
      list_long = s.list_long;
      answers_long = refl;
      kept = marked_kept a (omega (arith, (let row_in : c.add_call-put.result.full ≡ false → c.add_call-put.result.row < c.add_call-put.result.count = (λ f. put_inside c.add_call-put.ensures.call_put f) in row_in) c.if-put.false)) s.kept;
      indexed = marked_indexed a s.indexed;
      uses_more = uses_trans s.uses_more (uses_same (marked_uses a c.add_call-put.new.list));
    } in stays_marked) in
    let o = s.kept.calls_open in
    let l = (let row_in : c.add_call-put.result.full ≡ false → c.add_call-put.result.row < c.add_call-put.result.count = (λ f. put_inside c.add_call-put.ensures.call_put f) in row_in) c.if-put.false in record { row_bound = (omega (arith, o.stored.fits, o.stored.most, l), omega (arith, o.stored.fits, o.stored.most, o.listed, l), omega (arith, c.requires.3)); by_index = (c.args.m, c.requires.4, c.requires.0.answers_open, s.indexed.of_answers) }

pub returns-then-first-job : goal.returns-then-first-job
returns-then-first-job c =
    let j = c.args.job in record {
      stays = (
        (let stays_marked : Stays c.args.job.most c.args.calls.now c.args.list.now c.args.answers.now c.mark.new.calls c.add_call-put.new.list
            c.add_call-put.result.count c.args.answers.now c.args.m = let s = (let stays_noted : Stays c.args.job.most c.args.calls.now c.args.list.now c.args.answers.now c.note.new.calls c.add_call-put.new.list
            c.add_call-put.result.count c.args.answers.now c.args.m = let s = (let stays_put : Stays c.args.job.most c.args.calls.now c.args.list.now c.args.answers.now c.add_call-put.new.calls c.add_call-put.new.list c.add_call-put.result.count
            c.args.answers.now c.args.m = let x = c.add_call-put.ensures in
            record {
              calls_long = x.calls_kept.long;
              list_long = x.calls_kept.list_long;
              answers_long = refl;
              kept = record { calls_open = x.calls_open.0; answers_open = c.requires.0.answers_open };
              indexed = record { of_calls = x.calls_open.1; of_answers = called_index x.calls_kept c.requires.1.of_answers };
              uses_more = uses_same (called_uses x.calls_kept);
            } in stays_put) in
            let a = c.note.ensures.uses_alone in
            record {
              calls_long = a.long ∙ s.calls_long;
              list_long = s.list_long;
              answers_long = refl;
              kept = noted_kept a (omega (arith, (let row_in : c.add_call-put.result.full ≡ false → c.add_call-put.result.row < c.add_call-put.result.count = (λ f. put_inside c.add_call-put.ensures.call_put f) in row_in) c.if-put.false)) s.kept;
              indexed = noted_indexed a s.indexed;
              uses_more = uses_trans s.uses_more (c.note.ensures.by_index c.add_call-put.new.list).grew;
            } in stays_noted) in
            let a = c.mark.ensures.marks_alone in
            record {
              calls_long = a.long ∙ s.calls_long;
              list_long = s.list_long;
              answers_long = refl;
              kept = marked_kept a (omega (arith, (let row_in : c.add_call-put.result.full ≡ false → c.add_call-put.result.row < c.add_call-put.result.count = (λ f. put_inside c.add_call-put.ensures.call_put f) in row_in) c.if-put.false)) s.kept;
              indexed = marked_indexed a s.indexed;
              uses_more = uses_trans s.uses_more (uses_same (marked_uses a c.add_call-put.new.list));
            } in stays_marked),
        refl,
      );
      stepped = λ bodies roots b begun body h e z d T. (
        faced_none bodies (Among roots) b j.known j.rule j.row j.walk (past_of j begun) body ((let facing : (bodies : Bodies) (roots : List (ℕ × ℕ)) (b : Tables) (begun : Begin) (body : List ℕ) → c.args.at < length body → is_call (get_or body c.args.at 0) ≡ true → get_or body c.args.at 0 ≡ c.args.step
            → Turning bodies (Among roots) b c.args.job.known c.args.job.rule c.args.job.row c.args.job.walk (past_of c.args.job begun) body
            (in_words c.args.calls.now c.args.n c.args.answers.now c.args.m) (mark_words c.args.calls.now) (uses_in c.args.calls.now c.args.list.now) c.args.chosen.now c.args.at (spot_of c.args.spot)
            → Facing bodies (Among roots) b c.args.job.known c.args.job.rule c.args.job.row c.args.job.walk (past_of c.args.job begun) body
            c.note.new.calls c.add_call-put.new.list c.add_call-put.result.count c.args.answers.now c.args.m c.args.chosen.now c.args.at (spot_of c.args.spot) c.add_call-put.result.row = (λ bodies roots b begun body h e z T. faced bodies (Among roots) b c.args.job.known c.args.job.rule c.args.job.row c.args.job.walk (past_of c.args.job begun) body T h e ((let put_at : (a : ℕ) → a ≡ c.args.step
            → CallPut (room call_width (length c.args.calls.now)) (open_calls c.args.calls.now c.args.n) (a % 256)
            c.args.spot.state.0 c.args.job.round (open_calls c.add_call-put.new.calls c.add_call-put.result.count) c.add_call-put.result.row c.add_call-put.result.full = (λ a z. rw (z, ← c.index.ensures) c.add_call-put.ensures.call_put) in put_at) _ z) c.if-put.false
            c.add_call-put.ensures.calls_kept c.note.ensures.uses_alone (c.note.ensures.by_index c.add_call-put.new.list)) in facing) bodies roots b begun body h e z T) c.mark.ensures.marks_alone c.mark.ensures.calls_after ((let row_small : c.add_call-put.result.full ≡ false → c.add_call-put.result.row < 65536 = (λ f. omega (arith, c.add_call-put.ensures.calls_open.0.stored.most, (let row_in : c.add_call-put.result.full ≡ false → c.add_call-put.result.row < c.add_call-put.result.count = (λ f. put_inside c.add_call-put.ensures.call_put f) in row_in) f)) in row_small) c.if-put.false) (rw c.if-is_marked.false at c.is_marked.ensures)
            (rw c.if-first-job.true at (c.first_of-first.ensures.1 begun body d)),
        refl,
      );
    }

pub offset_bounds-chosen-at : goal.offset_bounds-chosen-at
offset_bounds-chosen-at c = omega (arith, c.requires.3)

pub bounds-chosen-at : goal.bounds-chosen-at
bounds-chosen-at c = omega (arith, c.requires.3)

pub final_of-requires : goal.final_of-requires
final_of-requires c = omega (arith, c.requires.0.answers_open.fits, c.requires.0.answers_open.small, c.requires.0.answers_open.long, c.requires.4, (let first_below : c.first_of-first.result < c.args.job.known = omega (arith, c.first_of-first.ensures.0, c.if-first-job.false) in first_below))

pub overflow_add-after : goal.overflow_add-after
overflow_add-after c = omega (arith, c.requires.0.answers_open.fits, c.requires.0.answers_open.small, c.requires.0.answers_open.long, c.requires.4, (let first_below : c.first_of-first.result < c.args.job.known = omega (arith, c.first_of-first.ensures.0, c.if-first-job.false) in first_below))

pub shape_of-calls : goal.shape_of-calls
shape_of-calls c =
    ((let stays_marked : Stays c.args.job.most c.args.calls.now c.args.list.now c.args.answers.now c.mark.new.calls c.add_call-put.new.list
    c.add_call-put.result.count c.args.answers.now c.args.m = let s = (let stays_noted : Stays c.args.job.most c.args.calls.now c.args.list.now c.args.answers.now c.note.new.calls c.add_call-put.new.list
    c.add_call-put.result.count c.args.answers.now c.args.m = let s = (let stays_put : Stays c.args.job.most c.args.calls.now c.args.list.now c.args.answers.now c.add_call-put.new.calls c.add_call-put.new.list c.add_call-put.result.count
    c.args.answers.now c.args.m = let x = c.add_call-put.ensures in
    record {
      calls_long = x.calls_kept.long;
      list_long = x.calls_kept.list_long;
      answers_long = refl;
      kept = record { calls_open = x.calls_open.0; answers_open = c.requires.0.answers_open };
      indexed = record { of_calls = x.calls_open.1; of_answers = called_index x.calls_kept c.requires.1.of_answers };
      uses_more = uses_same (called_uses x.calls_kept);
    } in stays_put) in
    let a = c.note.ensures.uses_alone in
    record {
      calls_long = a.long ∙ s.calls_long;
      list_long = s.list_long;
      answers_long = refl;
      kept = noted_kept a (omega (arith, (let row_in : c.add_call-put.result.full ≡ false → c.add_call-put.result.row < c.add_call-put.result.count = (λ f. put_inside c.add_call-put.ensures.call_put f) in row_in) c.if-put.false)) s.kept;
      indexed = noted_indexed a s.indexed;
      uses_more = uses_trans s.uses_more (c.note.ensures.by_index c.add_call-put.new.list).grew;
    } in stays_noted) in
    let a = c.mark.ensures.marks_alone in
    record {
      calls_long = a.long ∙ s.calls_long;
      list_long = s.list_long;
      answers_long = refl;
      kept = marked_kept a (omega (arith, (let row_in : c.add_call-put.result.full ≡ false → c.add_call-put.result.row < c.add_call-put.result.count = (λ f. put_inside c.add_call-put.ensures.call_put f) in row_in) c.if-put.false)) s.kept;
      indexed = marked_indexed a s.indexed;
      uses_more = uses_trans s.uses_more (uses_same (marked_uses a c.add_call-put.new.list));
    } in stays_marked)).calls_long

pub shape_of-list : goal.shape_of-list
shape_of-list c =
    ((let stays_marked : Stays c.args.job.most c.args.calls.now c.args.list.now c.args.answers.now c.mark.new.calls c.add_call-put.new.list
    c.add_call-put.result.count c.args.answers.now c.args.m = let s = (let stays_noted : Stays c.args.job.most c.args.calls.now c.args.list.now c.args.answers.now c.note.new.calls c.add_call-put.new.list
    c.add_call-put.result.count c.args.answers.now c.args.m = let s = (let stays_put : Stays c.args.job.most c.args.calls.now c.args.list.now c.args.answers.now c.add_call-put.new.calls c.add_call-put.new.list c.add_call-put.result.count
    c.args.answers.now c.args.m = let x = c.add_call-put.ensures in
    record {
      calls_long = x.calls_kept.long;
      list_long = x.calls_kept.list_long;
      answers_long = refl;
      kept = record { calls_open = x.calls_open.0; answers_open = c.requires.0.answers_open };
      indexed = record { of_calls = x.calls_open.1; of_answers = called_index x.calls_kept c.requires.1.of_answers };
      uses_more = uses_same (called_uses x.calls_kept);
    } in stays_put) in
    let a = c.note.ensures.uses_alone in
    record {
      calls_long = a.long ∙ s.calls_long;
      list_long = s.list_long;
      answers_long = refl;
      kept = noted_kept a (omega (arith, (let row_in : c.add_call-put.result.full ≡ false → c.add_call-put.result.row < c.add_call-put.result.count = (λ f. put_inside c.add_call-put.ensures.call_put f) in row_in) c.if-put.false)) s.kept;
      indexed = noted_indexed a s.indexed;
      uses_more = uses_trans s.uses_more (c.note.ensures.by_index c.add_call-put.new.list).grew;
    } in stays_noted) in
    let a = c.mark.ensures.marks_alone in
    record {
      calls_long = a.long ∙ s.calls_long;
      list_long = s.list_long;
      answers_long = refl;
      kept = marked_kept a (omega (arith, (let row_in : c.add_call-put.result.full ≡ false → c.add_call-put.result.row < c.add_call-put.result.count = (λ f. put_inside c.add_call-put.ensures.call_put f) in row_in) c.if-put.false)) s.kept;
      indexed = marked_indexed a s.indexed;
      uses_more = uses_trans s.uses_more (uses_same (marked_uses a c.add_call-put.new.list));
    } in stays_marked)).list_long

pub returns : goal.returns
returns c =
    let j = c.args.job in
    let at = c.args.at in
    let first = c.first_of-first.result in record {
      stays = (
        (let stays_marked : Stays c.args.job.most c.args.calls.now c.args.list.now c.args.answers.now c.mark.new.calls c.add_call-put.new.list
            c.add_call-put.result.count c.args.answers.now c.args.m = let s = (let stays_noted : Stays c.args.job.most c.args.calls.now c.args.list.now c.args.answers.now c.note.new.calls c.add_call-put.new.list
            c.add_call-put.result.count c.args.answers.now c.args.m = let s = (let stays_put : Stays c.args.job.most c.args.calls.now c.args.list.now c.args.answers.now c.add_call-put.new.calls c.add_call-put.new.list c.add_call-put.result.count
            c.args.answers.now c.args.m = let x = c.add_call-put.ensures in
            record {
              calls_long = x.calls_kept.long;
              list_long = x.calls_kept.list_long;
              answers_long = refl;
              kept = record { calls_open = x.calls_open.0; answers_open = c.requires.0.answers_open };
              indexed = record { of_calls = x.calls_open.1; of_answers = called_index x.calls_kept c.requires.1.of_answers };
              uses_more = uses_same (called_uses x.calls_kept);
            } in stays_put) in
            let a = c.note.ensures.uses_alone in
            record {
              calls_long = a.long ∙ s.calls_long;
              list_long = s.list_long;
              answers_long = refl;
              kept = noted_kept a (omega (arith, (let row_in : c.add_call-put.result.full ≡ false → c.add_call-put.result.row < c.add_call-put.result.count = (λ f. put_inside c.add_call-put.ensures.call_put f) in row_in) c.if-put.false)) s.kept;
              indexed = noted_indexed a s.indexed;
              uses_more = uses_trans s.uses_more (c.note.ensures.by_index c.add_call-put.new.list).grew;
            } in stays_noted) in
            let a = c.mark.ensures.marks_alone in
            record {
              calls_long = a.long ∙ s.calls_long;
              list_long = s.list_long;
              answers_long = refl;
              kept = marked_kept a (omega (arith, (let row_in : c.add_call-put.result.full ≡ false → c.add_call-put.result.row < c.add_call-put.result.count = (λ f. put_inside c.add_call-put.ensures.call_put f) in row_in) c.if-put.false)) s.kept;
              indexed = marked_indexed a s.indexed;
              uses_more = uses_trans s.uses_more (uses_same (marked_uses a c.add_call-put.new.list));
            } in stays_marked),
        refl,
      );
      stepped = λ bodies roots b begun body h e z d T. (
        rw c.final_of.ensures
            (faced_take bodies (Among roots) b j.known j.rule j.row j.walk (past_of j begun) body ((let facing : (bodies : Bodies) (roots : List (ℕ × ℕ)) (b : Tables) (begun : Begin) (body : List ℕ) → c.args.at < length body → is_call (get_or body c.args.at 0) ≡ true → get_or body c.args.at 0 ≡ c.args.step
            → Turning bodies (Among roots) b c.args.job.known c.args.job.rule c.args.job.row c.args.job.walk (past_of c.args.job begun) body
            (in_words c.args.calls.now c.args.n c.args.answers.now c.args.m) (mark_words c.args.calls.now) (uses_in c.args.calls.now c.args.list.now) c.args.chosen.now c.args.at (spot_of c.args.spot)
            → Facing bodies (Among roots) b c.args.job.known c.args.job.rule c.args.job.row c.args.job.walk (past_of c.args.job begun) body
            c.note.new.calls c.add_call-put.new.list c.add_call-put.result.count c.args.answers.now c.args.m c.args.chosen.now c.args.at (spot_of c.args.spot) c.add_call-put.result.row = (λ bodies roots b begun body h e z T. faced bodies (Among roots) b c.args.job.known c.args.job.rule c.args.job.row c.args.job.walk (past_of c.args.job begun) body T h e ((let put_at : (a : ℕ) → a ≡ c.args.step
            → CallPut (room call_width (length c.args.calls.now)) (open_calls c.args.calls.now c.args.n) (a % 256)
            c.args.spot.state.0 c.args.job.round (open_calls c.add_call-put.new.calls c.add_call-put.result.count) c.add_call-put.result.row c.add_call-put.result.full = (λ a z. rw (z, ← c.index.ensures) c.add_call-put.ensures.call_put) in put_at) _ z) c.if-put.false
            c.add_call-put.ensures.calls_kept c.note.ensures.uses_alone (c.note.ensures.by_index c.add_call-put.new.list)) in facing) bodies roots b begun body h e z T) c.mark.ensures.marks_alone c.mark.ensures.calls_after ((let row_small : c.add_call-put.result.full ≡ false → c.add_call-put.result.row < 65536 = (λ f. omega (arith, c.add_call-put.ensures.calls_open.0.stored.most, (let row_in : c.add_call-put.result.full ≡ false → c.add_call-put.result.row < c.add_call-put.result.count = (λ f. put_inside c.add_call-put.ensures.call_put f) in row_in) f)) in row_small) c.if-put.false) (rw c.if-is_marked.false at c.is_marked.ensures)
            ((let first_below : c.first_of-first.result < c.args.job.known = omega (arith, c.first_of-first.ensures.0, c.if-first-job.false) in first_below)) (c.first_of-first.ensures.1 begun body d)),
        left_on j.known c.args.chosen.now (set c.args.chosen.now at first) at at (λ q l. get_or-set_other c.args.chosen.now at q first 0 (omega arith)) c.requires.3 refl,
      );
    }
