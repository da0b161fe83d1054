-- `fill_rows` meets its contract: the roots that stand are put into cleared tables one after the other, or there is no room for them; then the rounds
-- fill the tables from them. Assumes nothing.
use Prim.Native.Nat.{ℕ}
use native.Mathlib.Omega.{arith}
use mathlib.Core.Path.{◌≡◌, refl, subst, ◌∙◌}
use mathlib.Core.Bool.{Bool, true, false}
use mathlib.Core.List.Memᴰ
use mathlib.Core.List.{List, []}
use lib.ListN.{length}
use Rattle.steps.specs.State.{State}
use Rattle.steps.specs.Run.{Goal}
use Rattle.steps.proofs.EachBelow.{true_not_false}
use Rattle.records.specs.Records.{Bodies, room, call_width}
use Rattle.records.specs.Bodies.{second_goal, bodies_with}
use Rattle.records.proofs.Growth.{Tables}
use Rattle.records.proofs.Justification.{Proper}
use Rattle.records.proofs.Numbers.{proper_with}
use Rattle.records.proofs.Zeros.{zero_long}
use Rattle.desk.specs.Desk.{open_calls, packed_answers}
use Rattle.index.proofs.IndexLaws.{call_index_none, answer_index_none}
use Rattle.marks.proofs.MarksLaws.{zeros_stamped}
use Rattle.tabling.proofs.Evidence.{Among, Valid}
use Rattle.tabling.proofs.Adding.{Outgrown}
use Rattle.invariants.proofs.Going.{in_words}
use Rattle.invariants.proofs.Filling.{Filled}
use Rattle.joint.specs.Joint.{root_if, roots_of, RootPut, RowsFilled}
use Rattle.joint.proofs.Roots.{none_valid, outgrown_more, root_as, root_put, root_full, root_alone}
use Rattle.joint.proofs.Fresh.{Fresh, cleared_open, cleared_fresh, fresh_still}
use Rattle.std.proofs.lemmas.Result.{err_from_is_err_and}
use Rattle.joint.proofs.fill_rows.Goals as goal
use Rattle.joint.proofs.fill_rows.Goals.{After-add_root-one, After-add_root-two}

-- a table is full: nothing is said of the words but their lengths
rows_full : {bodies : Bodies} {roots : List (ℕ × State)} {most : ℕ} {calls list answers calls' list' : List ℕ} {n m : ℕ} → Fresh calls list calls' list'
    → Outgrown bodies (Among roots) (room call_width (length calls)) most → RowsFilled bodies roots most calls list answers calls' list' answers true n m
rows_full f o = record {
  calls_long = f.long;
  list_long = f.list_long;
  answers_long = refl;
  kept = λ e. absurd (true_not_false e);
  indexed = λ e. absurd (true_not_false e);
  whole = λ e. absurd (true_not_false e);
  outgrown = λ e. o;
}

-- What the rounds leave in tables that were cleared before the roots were put in.
rows_filled : {bodies : Bodies} {roots : List (ℕ × State)} {b : Tables} {most : ℕ} {calls list answers calls₁ list₁ calls' list' answers' : List ℕ} {full : Bool} {n m rounds : ℕ}
    → Fresh calls list calls₁ list₁ → Filled bodies most roots 0 b calls₁ list₁ answers calls' list' answers' full n m rounds
    → RowsFilled bodies roots most calls list answers calls' list' answers' full n m
rows_filled fresh F = record {
  calls_long = F.calls_long ∙ fresh.long;
  list_long = F.list_long ∙ fresh.list_long;
  answers_long = F.answers_long;
  kept = λ e. F.kept;
  indexed = λ e. F.indexed;
  whole = F.closed;
  outgrown = λ e. rw fresh.long at (F.outgrown e);
}

-- ---- the first goal's root

abbrev over : After-add_root-one → Bodies
over c = bodies_with c.args.rules.now c.args.goals.first c.args.goals.second c.args.goal.now c.args.second.now

abbrev roots : After-add_root-one → List (ℕ × State)
roots c = roots_of c.args.goals.first c.args.goals.second c.args.start c.args.second_start

fresh_one : (c : After-add_root-one) → Fresh c.args.calls.now c.args.list.now c.add_root-one.new.calls c.add_root-one.new.list
fresh_one c = fresh_still c.add_root-one.ensures.calls_kept (cleared_fresh c.args.calls.now c.args.list.now c.clear.ensures c.clear-2.ensures)

proper : (c : After-add_root-one) → Proper (over c)
proper c =
    let (fluents, actions, first, second) = c.requires.accepted in
    proper_with c.args.rules.now c.args.goals.first c.args.goals.second c.args.goal.now c.args.second.now first second

none : (c : After-add_root-one) → Valid (over c) (Among []) (in_words c.clear.new.words 0 c.args.answers.now 0)
none c = none_valid (over c) (open_calls c.clear.new.words 0) (packed_answers c.args.answers.now 0) refl refl

put_one : (c : After-add_root-one) → RootPut c.args.goals.first (room call_width (length c.clear.new.words)) (open_calls c.clear.new.words 0) Goal c.args.start
    (open_calls c.add_root-one.new.calls c.add_root-one.result.count) c.add_root-one.result.row c.add_root-one.result.full
put_one c = root_as c.goal.ensures.0 c.goal.ensures.1 c.add_root-one.ensures.root_put

with_one : (c : After-add_root-one) → c.add_root-one.result.full ≡ false
    → Valid (over c) (Among (root_if c.args.goals.first Goal c.args.start)) (in_words c.add_root-one.new.calls c.add_root-one.result.count c.args.answers.now 0)
with_one c e = root_put (proper c) (none c) c.args.goals.first (put_one c) e

pub add_root-one-requires : goal.add_root-one-requires
add_root-one-requires c = record {
  calls_open = (cleared_open c.args.calls.now c.args.list.now c.clear.ensures c.clear-2.ensures c.requires.calls_in_bounds.0, call_index_none _ _, omega (arith, c.goal.ensures.0));
  no_call = λ x l k. absurd (omega (arith, l));
}

pub returns-then-one : goal.returns-then-one
returns-then-one c =
    let o = (goal.at.returns-then-one c).After-add_root-one in
    rows_full (fresh_one o)
    (rw (zero_long _ c.clear.ensures) at
    (outgrown_more (over o) {Root' = Among (roots o)} _ _ (λ b E m. Memᴰ.append_left _ m) (root_full (proper o) (none o) c.args.goals.first c.args.most (put_one o) c.if-one.true)))

-- ---- the second's

fresh_two : (c : After-add_root-two) → Fresh c.args.calls.now c.args.list.now c.add_root-two.new.calls c.add_root-two.new.list
fresh_two c = fresh_still c.add_root-two.ensures.calls_kept (fresh_still c.add_root-one.ensures.calls_kept (cleared_fresh c.args.calls.now c.args.list.now c.clear.ensures c.clear-2.ensures))

put_two : (c : After-add_root-two) → RootPut c.args.goals.second (room call_width (length c.add_root-one.new.calls)) (open_calls c.add_root-one.new.calls c.add_root-one.result.count)
    second_goal c.args.second_start (open_calls c.add_root-two.new.calls c.add_root-two.result.count) c.add_root-two.result.row c.add_root-two.result.full
put_two c = root_as refl c.of.ensures c.add_root-two.ensures.root_put

pub add_root-two-requires : goal.add_root-two-requires
add_root-two-requires c =
    let o = (goal.at.add_root-two-requires c).After-add_root-one in
    let s = c.add_root-one.ensures.calls_open_2 in
    record { calls_open = (s.0, s.1, omega arith); no_call = root_alone refl second_goal _ (λ e. absurd (omega (arith, e))) c.args.goals.first (put_one o) }

pub returns-then-two : goal.returns-then-two
returns-then-two c =
    let o = (goal.at.returns-then-two c).After-add_root-one in
    let t = (goal.at.returns-then-two c).After-add_root-two in
    rows_full (fresh_two t)
    (rw (fresh_one o).long at (root_full (proper o) (with_one o c.if-one.false) c.args.goals.second c.args.most (put_two t) c.if-two.true))

pub fill-requires : goal.fill-requires
fill-requires c =
    let o = (goal.at.fill-requires c).After-add_root-one in
    let t = (goal.at.fill-requires c).After-add_root-two in
    let s = c.add_root-two.ensures.calls_open_2 in
    let f = fresh_two t in record {
      kept = (
        record { calls_open = s.0; answers_open = record { fits = omega arith; small = c.requires.calls_in_bounds.1; long = c.requires.calls_in_bounds.2 } },
        record { of_calls = s.1; of_answers = answer_index_none _ c.add_root-two.new.calls c.args.answers.now },
        zeros_stamped 0 f.unmarked (omega arith),
        omega arith,
        f.cold,
        λ x l. absurd (omega arith),
      );
      accepted = c.requires.accepted;
      by_index = (roots o, root_put (proper o) (with_one o c.if-one.false) c.args.goals.second (put_two t) c.if-two.false);
    }

pub returns : goal.returns
returns c =
    let o = (goal.at.returns c).After-add_root-one in
    let t = (goal.at.returns c).After-add_root-two in
    rows_filled (fresh_two t) (c.in_ok-run.ensures (roots o) (root_put (proper o) (with_one o c.if-one.false) c.args.goals.second (put_two t) c.if-two.false))

pub returns-in_err-run : goal.returns-in_err-run
returns-in_err-run c =
    let o = (goal.at.returns-in_err-run c).After-add_root-one in
    let t = (goal.at.returns-in_err-run c).After-add_root-two in
    let p = err_from_is_err_and c.from_residual.result c.from_residual.ensures.1 in
    rw (p.1, p.2) (rows_filled (fresh_two t) (c.in_err-run.ensures (roots o) (root_put (proper o) (with_one o c.if-one.false) c.args.goals.second (put_two t) c.if-two.false)))
