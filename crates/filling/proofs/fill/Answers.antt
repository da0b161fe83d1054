use Prim.Native.Nat.{ℕ, suc, ◌+◌, ◌<◌}
use native.Mathlib.Omega.{arith}
use native.Mathlib.Decide.{dec_lt}
use mathlib.Core.Path.{◌≡◌, refl, sym, ◌∙◌}
use Rattle.steps.specs.State.{State}
use Rattle.steps.proofs.EachBelow.{true_not_false}
use Rattle.records.specs.Records.{Bodies}
use Rattle.records.proofs.Growth.{Tables}
use Rattle.records.proofs.Numbers.{proper_with}
use Rattle.tabling.proofs.Evidence.{Valid, inside_of}
use Rattle.tabling.proofs.Found.{Made, begun, went}
use Rattle.invariants.proofs.Rounds.{round_start}
use Rattle.invariants.proofs.Ordering.{index_ordered, stamped_ordered, round_ordered, sooner_ordered, gathered_rounded, gathered_still}
use Rattle.std.proofs.lemmas.Result.{err_from_is_err_and}
use Rattle.filling.proofs.fill.Goals as goal

plus_one : (n : ℕ) → n + 1 ≡ suc n
plus_one n = omega arith

-- all answers after a round are of call records that stood before it
made_inside : {bodies : Bodies} {Root : ℕ → State → Type 0} {r : ℕ} {b u : Tables} → Valid bodies Root b → Made bodies r b u → (x : ℕ) → x < u.answers.count → u.answers.call x < b.calls.count
made_inside {b = b} {u} v M x l = by (dec_lt x b.answers.count)
  where
    by : Dec (x < b.answers.count) → u.answers.call x < b.calls.count
    by (yes h) = rw (M.grew.call_same h) (inside_of v x h)
    by (no h) = (M.answer_found x (omega arith) l).0.row_in

pub loop-done-init : goal.loop-done-init
loop-done-init c =
    record {
      calls_long = refl;
      list_long = refl;
      answers_long = refl;
      kept = c.requires.kept.0;
      indexed = c.requires.kept.1;
      stale = λ k. omega (arith, c.requires.kept.4 k);
      stamped = c.requires.kept.2;
      few = omega arith;
      sooner = λ x l. omega (arith, c.requires.kept.5 x l);
      rounded = λ _. begun;
      round = λ roots v. round_start _ _ c.args.first _ v c.requires.kept.3;
    }

pub overflow_add-stage : goal.overflow_add-stage
overflow_add-stage c = let l = c.loop-done.invariant in omega (arith, l.few, l.kept.calls_open.stored.most, l.kept.answers_open.fits, l.kept.answers_open.small)

pub round-requires : goal.round-requires
round-requires c =
    let l = c.loop-done.invariant in
    let (roots, valid) = c.requires.by_index in record {
      accepted = c.requires.accepted;
      standing = record {
        kept = l.kept;
        indexed = l.indexed;
        stamped = l.stamped;
        stale = l.stale;
        sooner = l.sooner;
        early = omega (arith, l.few, l.kept.calls_open.stored.most, l.kept.answers_open.fits, l.kept.answers_open.small);
        roots = roots;
        round = l.round roots valid;
      };
    }

pub overflow_add-rows : goal.overflow_add-rows
overflow_add-rows c = let k = c.in_ok-done.ensures.kept in omega (arith, k.calls_open.stored.most, k.answers_open.fits, k.answers_open.small)

pub overflow_add-n : goal.overflow_add-n
overflow_add-n c = let k = c.loop-done.invariant.kept in omega (arith, k.calls_open.stored.most, k.answers_open.fits, k.answers_open.small)

pub returns-then-rows-known : goal.returns-then-rows-known
returns-then-rows-known c =
    λ roots v.
    (let w = c.in_ok-done.ensures in
    let l = c.loop-done.invariant in
    record {
      calls_long = w.calls_long ∙ l.calls_long;
      list_long = w.list_long ∙ l.list_long;
      answers_long = w.answers_long ∙ l.answers_long;
      kept = w.kept;
      indexed = w.indexed;
      closed = λ _. (w.next refl roots (l.round roots v)).1 c.if-rows-known.true;
      rounded = λ _ z.
          (let (fluents, actions, words, words') = c.requires.accepted in
          let (rs, valid) = c.requires.by_index in
          let S = l.round rs valid in
          record {
            last = _;
            rounds = l.rounded z;
            still = rw (plus_one c.loop-done.rounds) at (gathered_still (proper_with c.args.rules.now c.args.goals.first c.args.goals.second c.args.goal.now c.args.second.now words words') S.valid (w.next refl rs S).0.valid (w.gathered refl z) (sym c.if-rows-known.true));
            same = sym c.if-rows-known.true;
          });
      outgrown = λ e. absurd (true_not_false (sym e));
    })

pub order-requires : goal.order-requires
order-requires c =
    let w = c.in_ok-done.ensures in
    record { calls_open = (w.kept.calls_open, w.indexed.of_calls, w.rows_in refl); by_index = (c.loop-done.rounds + 1, λ k h i. ((w.made refl).call_found k h i).1); answers_open = (w.kept.answers_open, w.indexed.of_answers.covers, w.known_in refl, (w.made refl).by_row) }

pub overflow_add-rounds : goal.overflow_add-rounds
overflow_add-rounds c = let l = c.loop-done.invariant in omega (arith, l.few, l.kept.calls_open.stored.most, l.kept.answers_open.fits, l.kept.answers_open.small)

pub loop-done-smaller : goal.loop-done-smaller
loop-done-smaller c =
    let w = c.in_ok-done.ensures in
    omega (arith, w.kept.calls_open.stored.most, w.kept.answers_open.fits, w.kept.answers_open.small, w.rows_in refl, w.known_in refl, c.if-rows-known.false)

pub loop-done-preserved : goal.loop-done-preserved
loop-done-preserved c =
    let w = c.in_ok-done.ensures in
    let l = c.loop-done.invariant in
    let (fluents, actions, words, words') = c.requires.accepted in
    let (rs, valid) = c.requires.by_index in
    let S₀ = l.round rs valid in
    let ordered = c.order.ensures in
    let oc = ordered.calls_ordered in
    let oa = ordered.by_index_2 _ (index_ordered oc (made_inside S₀.valid (w.made refl)) w.indexed.of_answers) in
    let proper = proper_with c.args.rules.now c.args.goals.first c.args.goals.second c.args.goal.now c.args.second.now words words' in
    let most = w.kept.calls_open.stored.most in
    record {
      calls_long = oc.calls_long ∙ w.calls_long ∙ l.calls_long;
      list_long = oc.list_long ∙ w.list_long ∙ l.list_long;
      answers_long = oa.long ∙ w.answers_long ∙ l.answers_long;
      kept = record { calls_open = oc.kept; answers_open = oa.kept };
      indexed = record { of_calls = oc.index; of_answers = oa.index };
      stale = λ k. omega (arith, oc.heats k, w.stale k);
      stamped = stamped_ordered oc (w.stamped refl);
      few = omega (arith, l.few, w.rows_in refl, w.known_in refl, c.if-rows-known.false);
      sooner = sooner_ordered c.loop-done.calls c.loop-done.n c.loop-done.answers c.loop-done.m _ _ _ _ _ _ _ _ oc oa (w.rows_in refl) (w.known_in refl) most _ (w.sooner refl);
      rounded = λ z.
          (let R = gathered_rounded c.loop-done.calls c.loop-done.n c.loop-done.answers c.loop-done.m _ _ _ _ _ _ _ _ oc oa (w.rows_in refl) (w.known_in refl) most proper S₀.valid (w.next refl rs S₀).0.valid (w.gathered refl z) in
          rw (plus_one c.loop-done.rounds) (went (l.rounded z) (rw (plus_one c.loop-done.rounds) at R) (omega (arith, w.rows_in refl, w.known_in refl, c.if-rows-known.false))));
      round = λ roots v.
          (let S = l.round roots v in
          round_ordered c.loop-done.calls c.loop-done.n c.loop-done.answers c.loop-done.m _ _ _ _ _ _ _ _ oc oa (w.rows_in refl) (w.known_in refl) most proper S.valid (w.made refl) (w.next refl roots S).0);
    }

pub returns-in_err-done : goal.returns-in_err-done
returns-in_err-done c =
    λ roots v.
    (let p = err_from_is_err_and c.from_residual.result c.from_residual.ensures.1 in
    let w = c.in_err-done.ensures in
    let l = c.loop-done.invariant in
    rw (p.1, p.2) record {
      calls_long = w.calls_long ∙ l.calls_long;
      list_long = w.list_long ∙ l.list_long;
      answers_long = w.answers_long ∙ l.answers_long;
      kept = w.kept;
      indexed = w.indexed;
      closed = λ e. absurd (true_not_false e);
      rounded = λ e. absurd (true_not_false e);
      outgrown = λ _. rw l.calls_long at (w.outgrown refl roots (l.round roots v));
    })
