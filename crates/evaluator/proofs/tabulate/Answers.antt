-- `tabulate` meets its contract: the goal's call stands first, or there is no room for it; where the rounds are over the tables are given, and the
-- calls listed. Assumes nothing.
use Prim.Native.Nat.{ℕ, ◌*◌}
use native.Mathlib.Omega.{arith}
use mathlib.Core.Path.{◌≡◌, refl, sym, subst, ◌∙◌}
use mathlib.Core.Bool.{Bool, false}
use mathlib.Core.List.{List, [], ◌∷◌}
use lib.ListN.{length}
use Rattle.steps.proofs.EachBelow.{true_not_false}
use Rattle.steps.specs.Run.{Goal}
use Rattle.records.specs.Records.{Bodies, bodies_of, room, call_width}
use Rattle.records.specs.Storage.{CallPut}
use Rattle.records.proofs.Numbers.{proper_of}
use Rattle.desk.specs.Desk.{open_calls, packed_answers}
use Rattle.index.specs.Index.{CallsKept}
use Rattle.records.proofs.Growth.{Tables}
use Rattle.steps.specs.State.{State}
use Rattle.index.proofs.IndexLaws.{call_index_none, answer_index_none}
use Rattle.marks.proofs.MarksLaws.{zeros_stamped}
use Rattle.uses.specs.Uses.{heat, uses_in}
use Rattle.uses.proofs.NoteLaws.{heat_clear}
use Rattle.tabling.proofs.Evidence.{Among, Valid}
use Rattle.invariants.proofs.Going.{in_words}
use Rattle.invariants.proofs.Filling.{Filled, first_valid, first_full}
use Rattle.invariants.proofs.Tabulated.{tabulated, tabulated_full}
use Rattle.canonical.proofs.Beginning.{Begins}
use Rattle.records.proofs.Zeros.{zeros_stored, zero_at}
use Rattle.evaluator.proofs.Outcomes.{first_begins, listed_fits}
use Rattle.evaluator.proofs.tabulate.Goals as goal
use Rattle.evaluator.proofs.tabulate.Goals.{After-add_new-put}

-- What the rounds leave, from the tables as they were before the goal's call was put in.
filled_in : {bodies : Bodies} {roots : List (ℕ × State)} {b : Tables} {most most' : ℕ} {calls list answers calls₁ list₁ calls' list' answers' : List ℕ} {full : Bool} {n m rounds : ℕ}
    → CallsKept calls list calls₁ list₁ → most ≡ most' → Filled bodies most roots 0 b calls₁ list₁ answers calls' list' answers' full n m rounds
    → Filled bodies most' roots 0 b calls list answers calls' list' answers' full n m rounds
filled_in s e F = rw (← e) record {
  calls_long = F.calls_long ∙ s.long;
  list_long = F.list_long ∙ s.list_long;
  answers_long = F.answers_long;
  kept = F.kept;
  indexed = F.indexed;
  closed = F.closed;
  rounded = F.rounded;
  outgrown = λ z. rw s.long at (F.outgrown z);
}

-- ---- the goal's call

put_at : (c : After-add_new-put) → CallPut (room call_width (length c.args.calls.now)) (open_calls c.args.calls.now 0) Goal c.args.start 0
    (open_calls c.add_new-put.new.calls c.add_new-put.result.count) c.add_new-put.result.row c.add_new-put.result.full
put_at c = rw (← c.goal.ensures.0, ← c.goal.ensures.1) c.add_new-put.ensures.call_put

first : (c : After-add_new-put) → c.add_new-put.result.full ≡ false
    → Valid (bodies_of c.args.rules.now c.args.goal.now) (Among ((Goal, c.args.start) ∷ [])) (in_words c.add_new-put.new.calls c.add_new-put.result.count c.args.answers.now 0)
first c e =
    first_valid (bodies_of c.args.rules.now c.args.goal.now) Goal c.args.start _ 0 (open_calls c.args.calls.now 0)
    (open_calls c.add_new-put.new.calls c.add_new-put.result.count) (packed_answers c.args.answers.now 0) _ _ (put_at c) e refl refl

begins : (c : After-add_new-put) → c.add_new-put.result.full ≡ false
    → Begins c.args.start (in_words c.add_new-put.new.calls c.add_new-put.result.count c.args.answers.now 0)
begins c e =
    first_begins _ (open_calls c.args.calls.now 0) (open_calls c.add_new-put.new.calls c.add_new-put.result.count) (packed_answers c.args.answers.now 0) _ _ (put_at c) e refl refl

pub add_new-put-requires : goal.add_new-put-requires
add_new-put-requires c = record { calls_open = (record { stored = zeros_stored call_width _ c.requires.calls_value.0; listed = c.requires.calls_value.2 }, call_index_none c.args.calls.now c.args.list.now, omega (arith, c.goal.ensures.0), omega arith); no_call = λ x l k. absurd (omega (arith, l)) }

pub returns-then-put : goal.returns-then-put
returns-then-put c =
    let s = c.add_new-put.ensures.calls_kept in record {
      list_long = s.list_long;
      tabled = (
        refl,
        (
          in_words c.args.calls.now 0 c.args.answers.now 0,
          c.add_new-put.result.count,
          0,
          0,
          record {
            calls_long = s.long;
            answers_long = refl;
            kept = λ e. absurd (true_not_false e);
            closed = λ e. absurd (true_not_false e);
            rounded = λ e. absurd (true_not_false e);
            outgrown = λ e. first_full (bodies_of c.args.rules.now c.args.goal.now) Goal c.args.start _ 0 (open_calls c.args.calls.now 0) (open_calls c.add_new-put.new.calls c.add_new-put.result.count) _ _ _ (put_at (goal.at.returns-then-put c).After-add_new-put) c.if-put.true refl;
          },
        ),
      );
    }

pub fill-filled-requires : goal.fill-filled-requires
fill-filled-requires c =
    let e = c.if-put.false in
    let s = c.add_new-put.ensures.calls_open_2 in
    let its_room = c.room_of-most.ensures in record {
      kept = (
        record { calls_open = s.0; answers_open = record { fits = omega arith; small = omega (arith, its_room); long = omega (arith, its_room) } },
        record { of_calls = s.1; of_answers = answer_index_none _ c.add_new-put.new.calls c.args.answers.now },
        zeros_stamped 0 (λ r. c.add_new-put.ensures.calls_kept.marks r ∙ rw (zero_at c.args.calls.now c.requires.calls_value.0 (call_width * r)) refl) (omega arith),
        omega arith,
        λ k.
            c.add_new-put.ensures.calls_kept.notes k 1 (omega arith)
            ∙ subst (λ (l : List ℕ). heat (uses_in c.args.calls.now l) k ≡ 0) (sym c.requires.calls_value.1) (heat_clear c.args.calls.now (length c.args.list.now) k),
        λ x l. absurd (omega arith),
      );
      accepted = (c.requires.by_index.0, c.requires.by_index.1, c.requires.by_index.2, c.requires.by_index.2);
      by_index = ((Goal, c.args.start) ∷ [], first (goal.at.fill-filled-requires c).After-add_new-put e);
    }

pub returns-in-Err : goal.returns-in-Err
returns-in-Err c =
    let o = (goal.at.returns-in-Err c).After-add_new-put in
    let F = filled_in c.add_new-put.ensures.calls_kept c.room_of-most.ensures (c.in-Err.ensures ((Goal, c.args.start) ∷ []) (first o c.if-put.false)) in
    record { list_long = F.list_long; tabled = (refl, (_, _, _, _, tabulated_full refl F)) }

pub give-found-requires : goal.give-found-requires
give-found-requires c =
    let o = (goal.at.give-found-requires c).After-add_new-put in
    let F = filled_in c.add_new-put.ensures.calls_kept c.room_of-most.ensures (c.in-Ok.ensures ((Goal, c.args.start) ∷ []) (first o c.if-put.false)) in
    let W = (F.closed refl).valid in
    let k = F.kept.calls_open.stored in record {
      n_in_bounds = (
        k.fits,
        k.most,
        omega (arith, F.list_long, listed_fits {len = length c.args.list.now} k (λ h. omega (arith, F.calls_long, c.requires.calls_value.2))),
        W.calls_once,
      );
      m_bound = (rw F.answers_long F.kept.answers_open.fits, W.answers_once);
    }

pub returns-in-Ok : goal.returns-in-Ok
returns-in-Ok c =
    let o = (goal.at.returns-in-Ok c).After-add_new-put in
    let F = filled_in c.add_new-put.ensures.calls_kept c.room_of-most.ensures (c.in-Ok.ensures ((Goal, c.args.start) ∷ []) (first o c.if-put.false)) in
    let G = c.give-found.ensures in record {
      list_long = G.calls_listed.0.long ∙ F.list_long;
      tabled = (
        _,
        begins o c.if-put.false,
        tabulated {list = c.args.list.now} {list₁ = c.fill-filled.new.list} (proper_of c.args.rules.now c.args.goal.now c.requires.by_index.2) refl F G.calls_closed.0 G.calls_closed.1,
        rw F.list_long at G.calls_listed.0,
        G.calls_listed.1,
      );
    }
