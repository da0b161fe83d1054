-- `fill_aside` meets its contract: what the run leaves in the first words of both tables is told of the whole tables. Assumes nothing.
use Prim.Native.Nat.{ℕ, ◌*◌, ◌≤◌}
use native.Mathlib.Omega.{arith}
use mathlib.Core.Path.{◌≡◌, sym}
use mathlib.Core.List.{List}
use lib.ListN.{length}
use lib.Seq.{length-take-le}
use Rattle.records.proofs.Numbers.{proper_with}
use Rattle.stowing.specs.Stowing.{freed_words}
use Rattle.balancing.specs.Balancing.{call_room, answer_room}
use Rattle.balancing.proofs.Parts.{filled_aside}
use Rattle.std.proofs.lemmas.Result.{MatchResult-weaker}
use Rattle.balancing.proofs.aside.fill_aside.Goals as goal

-- the parts that are lent
places_in : (calls : List ℕ) (k : ℕ) → k ≡ call_room calls → k ≤ length calls
places_in calls k e = omega (arith, e)

free_in : (answers : List ℕ) (k : ℕ) → k ≡ answer_room answers → freed_words * k ≤ length answers
free_in answers k e = omega (arith, e)

pub slice_bounds-fill_rows-end-2 : goal.slice_bounds-fill_rows-end-2
slice_bounds-fill_rows-end-2 c =
    let calls = c.args.calls.now in
    let r = c.room_of-places in
    sym (length-take-le r.result calls (places_in calls r.result r.ensures))

pub slice_bounds-fill_rows-end-4 : goal.slice_bounds-fill_rows-end-4
slice_bounds-fill_rows-end-4 c =
    let answers = c.args.answers.now in
    let r = c.room_of-most in
    sym (length-take-le (freed_words * r.result) answers (free_in answers r.result r.ensures))

pub fill_rows-requires : goal.fill_rows-requires
fill_rows-requires c =
    let calls = c.args.calls.now in
    let answers = c.args.answers.now in
    let r = c.room_of-places in
    let s = c.room_of-most in record {
      accepted = c.requires.accepted;
      calls_in_bounds = (
        omega (arith, c.requires.rows_len, r.ensures, length-take-le r.result calls (places_in calls r.result r.ensures)),
        omega (arith, s.ensures),
        omega (arith, length-take-le (freed_words * s.result) answers (free_in answers s.result s.ensures)),
      );
    }

pub returns : goal.returns
returns c =
    let f = c.fill_rows in
    let r = c.room_of-places in
    let s = c.room_of-most in
    let (fluents, actions, acc, acc') = c.requires.accepted in
    let proper = proper_with c.args.rules.now c.args.goals.first c.args.goals.second c.args.goal.now c.args.second.now acc acc' in
    MatchResult-weaker f.result f.ensures
    (λ x R. filled_aside proper c.requires.rows_len r.result s.result r.ensures s.ensures R)
    (λ x R. filled_aside proper c.requires.rows_len r.result s.result r.ensures s.ensures R)
