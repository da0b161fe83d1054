use Prim.Native.Nat.{ℕ, ◌/◌, ◌<◌, ◌≤◌}
use native.Mathlib.Omega.{arith}
use native.Mathlib.Decide.{dec_lt}
use mathlib.Core.Path.{◌≡◌, refl, sym, ap, subst, ◌∙◌}
use mathlib.Core.Bool.{Bool, true}
use mathlib.Core.List.{List}
use lib.ListN.{length, get_or, replicate, length-replicate, get_or-replicate, get_or-eq_default}
use Rattle.steps.proofs.EachBelow.{true_not_false}
use Rattle.steps.specs.State.{State}
use Rattle.steps.specs.Widths.{rule_width}
use Rattle.records.specs.Records.{Bodies, Calls}
use Rattle.records.proofs.BodyLaws.{short_of}
use Rattle.desk.specs.Desk.{open_calls, packed_answers}
use Rattle.marks.proofs.MarksLaws.{alone_calls}
use Rattle.uses.specs.Uses.{Uses, UsesGrew, uses_in}
use Rattle.uses.proofs.UsesLaws.{kept_same, uses_refl, uses_trans}
use Rattle.tabling.proofs.Evidence.{Among, inside_of}
use Rattle.records.specs.Bodies.{number_at, bodies_with}
use Rattle.records.proofs.Numbers.{numbers_all, proper_with, lower_number}
use Rattle.invariants.proofs.Turn.{Begin, begin, before, Given, turn_start, body_short}
use Rattle.records.proofs.Growth.{Tables, tables}
use Rattle.invariants.proofs.Cold.{Past}
use Rattle.invariants.proofs.Frames.{uses_same, looked_kept, looked_indexed, marked_uses, marked_kept, marked_indexed}
use Rattle.invariants.proofs.Going.{in_words, going_start, going_on, going_back, going_fits, on_less, back_less}
use Rattle.invariants.proofs.Rounds.{Round, Rules, round_kept, rows_past, rows_start, rows_round, rows_passed, rules_start, rules_stopped, rules_skip, rules_next, rows_next, rows_finished, rows_gathered, rows_sooner, rules_lower}
use Rattle.filling.proofs.round.Goals as goal
use Rattle.filling.proofs.round.Goals.{After-next_walk-walk}

-- words that are all 0
zeros_at : (n i : ℕ) → ◌≡◌ {A = ℕ} (get_or (replicate n 0) i 0) 0
zeros_at n i = elim (dec_lt i n) [ yes l ↦ get_or-replicate n i 0 0 l | no m ↦ get_or-eq_default (replicate n 0) 0 (omega (arith, length-replicate {A = ℕ} n 0)) ]

-- the same body
past_words : {t : Tables} {notes : Uses} {seen known : ℕ} {warm : Bool} {row : ℕ} {body body' : List ℕ} → body ≡ body' → Past t notes seen known warm row body' → Past t notes seen known warm row body
past_words {t} {notes} {seen} {known} {warm} {row} e p = subst (λ (w : List ℕ). Past t notes seen known warm row w) (sym e) p

-- the rules up to another are of other actions
rules_past : (bodies : Bodies) (Root : ℕ → State → Type 0) (number : ℕ → ℕ) {first walked seen low high top old round rows known row rule rule' : ℕ} {warm : Bool} {begun : Begin} {t : Tables} {uses : Uses}
    → Rules bodies Root number first walked seen low high top old warm round rows known row rule begun t uses → ((k : ℕ) → rule ≤ k → k < rule' → bodies.fits (number k) (t.calls.action row) ≡ true → ⊥)
    → Rules bodies Root number first walked seen low high top old warm round rows known row rule' begun t uses
rules_past bodies Root number {rule = rule} R n = record { rows_closed = R.rows_closed; rules_closed = λ k h. elim (dec_lt k rule) [ yes l ↦ R.rules_closed k l | no m ↦ (λ e. absurd (n k (omega arith) h e)) ] }

-- a new walk's number changes marks alone
rules_marked : {bodies : Bodies} {Root : ℕ → State → Type 0} {number : ℕ → ℕ} {first walked seen low high top old : ℕ} {warm : Bool} {round rows known row rule : ℕ} {begun : Begin} {t t' : Tables} {uses uses' : Uses} → t' ≡ t → uses' ≡ uses
    → Rules bodies Root number first walked seen low high top old warm round rows known row rule begun t uses → Rules bodies Root number first walked seen low high top old warm round rows known row rule begun t' uses'
rules_marked p q R = rw (p, q) R

-- ---- where a walk begins

-- the bodies,
abbrev over : After-next_walk-walk → Bodies
over c = bodies_with c.args.rules.now c.args.goals.first c.args.goals.second c.args.goal.now c.args.second.now

-- what the round began with,
abbrev start : After-next_walk-walk → Begin
start c = begin (in_words c.args.calls.now c.args.stage.calls c.args.answers.now c.args.stage.answers) (uses_in c.args.calls.now c.span_of-span.new.list)

-- the tables,
abbrev here : After-next_walk-walk → Tables
here c = in_words c.next_walk-walk.new.calls c.loop-rule.n c.loop-rule.answers c.loop-rule.m

-- and the rules done before this one.
abbrev Done : After-next_walk-walk → List (ℕ × ℕ) → Begin → Tables → Uses → Type 0
Done c roots begun t uses =
    let s = c.span_of-span.result in
    let g = c.args.stage in
    Rules (over c) (Among roots) (number_at (length c.args.rules.now / rule_width)) c.args.first g.walked g.seen s.low s.high s.top s.old s.warm
    g.round g.calls g.answers c.loop-row.row c.loop-rule.rule begun t uses

-- The new walk's number changes marks alone.
marked_at : (c : After-next_walk-walk) (roots : List (ℕ × ℕ)) (begun : Begin)
    → Done c roots begun (in_words c.loop-rule.calls c.loop-rule.n c.loop-rule.answers c.loop-rule.m) (uses_in c.loop-rule.calls c.loop-rule.list)
    → Done c roots begun (here c) (uses_in c.next_walk-walk.new.calls c.loop-rule.list)
marked_at c roots begun R =
    let a = c.next_walk-walk.ensures.1 in
    rules_marked (ap (λ (z : Calls). tables z (packed_answers c.loop-rule.answers c.loop-rule.m)) (alone_calls a c.loop-rule.n)) (marked_uses a c.loop-rule.list) R

rules_at : (c : After-next_walk-walk) (roots : List (ℕ × ℕ))
    → Round (over c) (Among roots) c.args.first c.args.stage.walked c.args.stage.seen
    (in_words c.args.calls.now c.args.stage.calls c.args.answers.now c.args.stage.answers) (uses_in c.args.calls.now c.args.list.now)
    → Done c roots (start c) (here c) (uses_in c.next_walk-walk.new.calls c.loop-rule.list)
rules_at c roots S =
    let b = c.span_of-span.ensures.begun in
    marked_at c roots _ (c.loop-rule.invariant.closed roots _ (c.loop-row.invariant.closed roots (round_kept _ _ (kept_same b.low) S) b.lit))

action_at : (c : After-next_walk-walk) → (open_calls c.next_walk-walk.new.calls c.loop-rule.n).action c.loop-row.row ≡ c.action_of-action.result
action_at c = ap (λ (z : Calls). z.action c.loop-row.row) (alone_calls c.next_walk-walk.ensures.1 c.loop-rule.n) ∙ sym c.action_of-action.ensures

-- The body is that of the rule, and the rule is one of the call's action.
words_at : (c : After-next_walk-walk)
    → c.steps_for-body.result.now ≡ (over c).words c.number_of-number.result ((open_calls c.next_walk-walk.new.calls c.loop-rule.n).action c.loop-row.row)
words_at c = rw (action_at c) c.steps_for-body.ensures.0

fits_at : (c : After-next_walk-walk) → (over c).fits c.number_of-number.result ((open_calls c.next_walk-walk.new.calls c.loop-rule.n).action c.loop-row.row) ≡ true
fits_at c = rw (c.number_of-number.ensures, action_at c) (sym c.is_at.ensures ∙ c.if-not-is_at.false)

given_at : (c : After-next_walk-walk) (roots : List (ℕ × ℕ)) (begun : Begin) → Done c roots begun (here c) (uses_in c.next_walk-walk.new.calls c.loop-rule.list)
    → Given (over c) (Among roots) (here c) c.args.stage.answers c.number_of-number.result c.loop-row.row
    (before c.args.first c.span_of-span.result.old c.args.stage.seen c.span_of-span.result.warm c.args.stage.round begun) c.steps_for-body.result.now
given_at c roots begun R =
    let a = c.args in
    record {
      proper = proper_with a.rules.now a.goals.first a.goals.second a.goal.now a.second.now c.requires.accepted.2 c.requires.accepted.3;
      valid = R.rows_closed.before.valid;
      enough = R.rows_closed.known_in;
      row_in = omega (arith, R.rows_closed.rows_in, c.loop-row-test.true, c.span_of-span.ensures.spans.top_in);
      fits = fits_at c;
      words = words_at c;
      past = λ (h, k). past_words (words_at c) (rows_past _ _ R.rows_closed c.number_of-number.result (fits_at c) h k);
      lower = λ j k e g w.
          rules_lower _ _ _ R j
          (lower_number a.rules.now a.goals.first a.goals.second a.goal.now a.second.now c.requires.accepted.2.few_rules j
          ((open_calls c.next_walk-walk.new.calls c.loop-rule.n).action c.loop-row.row) c.loop-rule.rule e
          (omega (arith, c.loop-rule-test.true, c.past_body-past.ensures.0)) (rw c.number_of-number.ensures at k)) e g w;
      row_last = λ x h l. R.rows_closed.latest x (omega (arith, R.rows_closed.since.all_known)) l;
      row_old = omega (arith, R.rows_closed.base_rows, c.loop-row-test.true, c.span_of-span.ensures.spans.top_in);
      since = R.rows_closed.since;
    }

-- What the walk's invariant needs, for the roots for which the round stands.
begins_at : (c : After-next_walk-walk)
    → Given (over c) (Among c.requires.standing.roots) (here c) c.args.stage.answers c.number_of-number.result c.loop-row.row
    (before c.args.first c.span_of-span.result.old c.args.stage.seen c.span_of-span.result.warm c.args.stage.round (start c)) c.steps_for-body.result.now
    × UsesGrew (uses_in c.args.calls.now c.span_of-span.new.list) (uses_in c.next_walk-walk.new.calls c.loop-rule.list)
begins_at c =
    let R = rules_at c c.requires.standing.roots c.requires.standing.round in
    (given_at c c.requires.standing.roots _ R, R.rows_closed.noted)

-- ---- the answers

pub span_of-span-requires : goal.span_of-span-requires
span_of-span-requires c =
    let p = c.requires.standing in
    let k = p.kept in
    let most = k.calls_open.stored.most in
    let fits = k.calls_open.stored.fits in record {
      answers_held = (
        record {
          answers_fit = omega (arith, k.answers_open.fits, k.answers_open.long);
          calls_fit = fits;
          listed = omega (arith, fits, most, k.calls_open.listed);
          few = omega (arith, k.answers_open.fits, k.answers_open.small);
          small = most;
          inside = λ x l. inside_of p.round.valid x l;
        },
        p.round.seen_in,
        p.round.walked_in,
      );
      by_index = p.stale;
    }

pub loop-row-init : goal.loop-row-init
loop-row-init c =
    let p = c.requires.standing in
    let a = c.span_of-span.ensures.looks_alone in
    record {
      words = record { calls_long = refl; list_long = refl; answers_long = refl; kept = looked_kept a p.kept; indexed = looked_indexed a p.indexed; uses_more = uses_refl _ };
      stamped = p.stamped;
      row_in = c.span_of-span.ensures.spans.low_in;
      rows_in = omega arith;
      known_in = omega arith;
      closed = λ roots S W. rows_start _ _ _ S p.sooner c.span_of-span.ensures.spans W;
    }

pub loop-row-preserved-then-row-walked : goal.loop-row-preserved-then-row-walked
loop-row-preserved-then-row-walked c =
    let l = c.loop-row.invariant in
    record {
      words = l.words;
      stamped = l.stamped;
      row_in = omega (arith, c.loop-row-test.true, c.span_of-span.ensures.spans.top_in);
      rows_in = l.rows_in;
      known_in = l.known_in;
      closed = λ roots S W. rows_passed _ _ (l.closed roots S W) c.if-high-row.true c.if-row-walked.true;
    }

pub action_of-own-requires : goal.action_of-own-requires
action_of-own-requires c = omega (arith, c.loop-row.invariant.words.kept.calls_open.stored.fits, c.loop-row.invariant.rows_in, c.loop-row-test.true, c.span_of-span.ensures.spans.top_in)

pub first_body-from-requires : goal.first_body-from-requires
first_body-from-requires c = c.requires.accepted.2.few_rules

pub past_body-past-requires : goal.past_body-past-requires
past_body-past-requires c = c.requires.accepted.2.few_rules

pub loop-rule-init : goal.loop-rule-init
loop-rule-init c =
    let l = c.loop-row.invariant in
    record {
      words = record { calls_long = refl; list_long = refl; answers_long = refl; kept = l.words.kept; indexed = l.words.indexed; uses_more = uses_refl _ };
      stamped = l.stamped;
      rule_in = c.first_body-from.ensures.0;
      rows_in = l.rows_in;
      known_in = l.known_in;
      closed = λ roots begun R. rules_past _ _ _ (rules_start _ _ _ R) (λ k h l e. true_not_false (sym (rw (← c.action_of-own.ensures) at e) ∙ c.first_body-from.ensures.1 k l));
    }

pub action_of-action-requires : goal.action_of-action-requires
action_of-action-requires c = omega (arith, c.loop-rule.invariant.words.kept.calls_open.stored.fits, c.loop-rule.invariant.rows_in, c.loop-row-test.true, c.span_of-span.ensures.spans.top_in)

pub is_at-requires : goal.is_at-requires
is_at-requires c = omega (arith, c.requires.accepted.2.few_rules)

pub loop-rule-preserved-then-not-is_at : goal.loop-rule-preserved-then-not-is_at
loop-rule-preserved-then-not-is_at c =
    let l = c.loop-rule.invariant in
    record {
      words = l.words;
      stamped = l.stamped;
      rule_in = omega (arith, c.loop-rule-test.true, c.past_body-past.ensures.0);
      rows_in = l.rows_in;
      known_in = l.known_in;
      closed = λ roots begun R. rules_skip _ _ _ (l.closed roots begun R) (λ e. true_not_false (sym (rw (← c.action_of-action.ensures) at e) ∙ sym c.is_at.ensures ∙ c.if-not-is_at.true));
    }

pub steps_for-body-requires : goal.steps_for-body-requires
steps_for-body-requires c = (short_of _ _ c.requires.accepted.2, short_of _ _ c.requires.accepted.3, (c.action_of-action.result, rw c.number_of-number.ensures (sym c.is_at.ensures ∙ c.if-not-is_at.false)))

pub state_of-requires : goal.state_of-requires
state_of-requires c = omega (arith, c.loop-rule.invariant.words.kept.calls_open.stored.fits, c.loop-rule.invariant.rows_in, c.loop-row-test.true, c.span_of-span.ensures.spans.top_in)

pub loop-rule-preserved-then-not-goes_on : goal.loop-rule-preserved-then-not-goes_on
loop-rule-preserved-then-not-goes_on c =
    let l = c.loop-rule.invariant in
    record {
      words = l.words;
      stamped = l.stamped;
      rule_in = omega (arith, c.loop-rule-test.true, c.past_body-past.ensures.0);
      rows_in = l.rows_in;
      known_in = l.known_in;
      closed = λ roots begun R. rules_stopped _ _ _ (l.closed roots begun R) (λ _. rw (c.steps_for-body.ensures.0, c.number_of-number.ensures, c.action_of-action.ensures, c.state_of.ensures) at (c.goes_on.ensures c.if-not-goes_on.true));
    }

pub next_walk-walk-requires : goal.next_walk-walk-requires
next_walk-walk-requires c = (c.loop-rule.invariant.stamped, c.loop-rule.invariant.words.kept.calls_open.stored)

pub state_of-requires-in-loop-rule : goal.state_of-requires-in-loop-rule
state_of-requires-in-loop-rule c = omega (arith, c.next_walk-walk.ensures.1.long, c.loop-rule.invariant.words.kept.calls_open.stored.fits, c.loop-rule.invariant.rows_in, c.loop-row-test.true, c.span_of-span.ensures.spans.top_in)

pub loop-after-init : goal.loop-after-init
loop-after-init c =
    let l = c.loop-rule.invariant in
    let w = c.next_walk-walk.ensures.0 in
    let a = c.next_walk-walk.ensures.1 in
    record {
      words = record { calls_long = refl; list_long = refl; answers_long = refl; kept = marked_kept a (omega arith) l.words.kept; indexed = marked_indexed a l.words.indexed; uses_more = uses_refl _ };
      going = λ roots begun G U. rw c.state_of-in-loop-rule.ensures (going_start _ _ _ _ _ _ _ _ _ (turn_start _ _ _ _ _ _ _ _ _ _ G U w.stamped w.unmarked (length-replicate {A = ℕ} 16 0) (λ q l. zeros_at 16 q)));
    }

pub turn-turn-requires : goal.turn-turn-requires
turn-turn-requires c =
    let B = begins_at (goal.at.turn-turn-requires c).After-next_walk-walk in
    let G = c.loop-after.invariant.going _ _ B.0 B.1 in
    record {
      kept = (c.loop-after.invariant.words.kept, c.loop-after.invariant.words.indexed, c.requires.standing.early);
      by_index = (_, c.requires.standing.roots, _, _, G);
    }

pub slice_bounds-rest-count : goal.slice_bounds-rest-count
slice_bounds-rest-count c =
    let B = begins_at (goal.at.slice_bounds-rest-count c).After-next_walk-walk in
    let G = c.loop-after.invariant.going _ _ B.0 B.1 in
    omega (
      arith,
      (rw c.in-On.is at (c.turn-turn.ensures.leaving _ _ _ _ G)).0.walking.inside,
      going_fits _ _ _ _ _ _ _ _ _ G,
    )

pub slice_bounds-rest-start : goal.slice_bounds-rest-start
slice_bounds-rest-start c =
    let B = begins_at (goal.at.slice_bounds-rest-start c).After-next_walk-walk in
    let G = c.loop-after.invariant.going _ _ B.0 B.1 in
    omega (
      arith,
      (rw c.in-On.is at (c.turn-turn.ensures.leaving _ _ _ _ G)).0.walking.inside,
      going_fits _ _ _ _ _ _ _ _ _ G,
    )

pub loop-after-smaller-in-On : goal.loop-after-smaller-in-On
loop-after-smaller-in-On c =
    let B = begins_at (goal.at.loop-after-smaller-in-On c).After-next_walk-walk in
    let G = c.loop-after.invariant.going _ _ B.0 B.1 in
    let O = (rw c.in-On.is at (c.turn-turn.ensures.leaving _ _ _ _ G)) in
    on_less _ _ _ _ _ _ _ _ _ G O.0 refl O.1

pub loop-after-preserved-in-On : goal.loop-after-preserved-in-On
loop-after-preserved-in-On c =
    let s = c.turn-turn.ensures.stays in
    let w = c.loop-after.invariant in
    record {
      words = record { calls_long = s.calls_long ∙ w.words.calls_long; list_long = s.list_long ∙ w.words.list_long; answers_long = s.answers_long ∙ w.words.answers_long; kept = s.kept; indexed = s.indexed; uses_more = uses_trans w.words.uses_more s.uses_more };
      going = λ roots begun G U. going_on _ _ _ _ _ _ _ _ _ (w.going roots begun G U) (rw c.in-On.is at (c.turn-turn.ensures.leaving _ _ _ _ (w.going roots begun G U))).0 refl;
    }

pub offset_bounds-body-place : goal.offset_bounds-body-place
offset_bounds-body-place c =
    let B = begins_at (goal.at.offset_bounds-body-place c).After-next_walk-walk in
    let G = c.loop-after.invariant.going _ _ B.0 B.1 in
    omega (
      arith,
      (rw c.in-Back.is at (c.turn-turn.ensures.leaving _ _ _ _ G)).0.walking.inside,
      body_short _ _ _ _ _ _ c.next_walk-walk.result _ _ G.turning.given,
    )

pub slice_bounds-rest-count-in-Back : goal.slice_bounds-rest-count-in-Back
slice_bounds-rest-count-in-Back c =
    let B = begins_at (goal.at.slice_bounds-rest-count-in-Back c).After-next_walk-walk in
    let G = c.loop-after.invariant.going _ _ B.0 B.1 in
    omega (
      arith,
      (rw c.in-Back.is at (c.turn-turn.ensures.leaving _ _ _ _ G)).0.walking.inside,
    )

pub slice_bounds-rest-start-in-Back : goal.slice_bounds-rest-start-in-Back
slice_bounds-rest-start-in-Back c =
    let B = begins_at (goal.at.slice_bounds-rest-start-in-Back c).After-next_walk-walk in
    let G = c.loop-after.invariant.going _ _ B.0 B.1 in
    omega (
      arith,
      (rw c.in-Back.is at (c.turn-turn.ensures.leaving _ _ _ _ G)).0.walking.inside,
    )

pub loop-after-smaller : goal.loop-after-smaller
loop-after-smaller c =
    let B = begins_at (goal.at.loop-after-smaller c).After-next_walk-walk in
    let G = c.loop-after.invariant.going _ _ B.0 B.1 in
    let O = (rw c.in-Back.is at (c.turn-turn.ensures.leaving _ _ _ _ G)) in
    back_less _ _ _ _ _ _ _ _ _ _ O.0 refl O.1

pub loop-after-preserved : goal.loop-after-preserved
loop-after-preserved c =
    let s = c.turn-turn.ensures.stays in
    let w = c.loop-after.invariant in
    record {
      words = record { calls_long = s.calls_long ∙ w.words.calls_long; list_long = s.list_long ∙ w.words.list_long; answers_long = s.answers_long ∙ w.words.answers_long; kept = s.kept; indexed = s.indexed; uses_more = uses_trans w.words.uses_more s.uses_more };
      going = λ roots begun G U. going_back _ _ _ _ _ _ _ _ _ _ (rw c.in-Back.is at (c.turn-turn.ensures.leaving _ _ _ _ (w.going roots begun G U))).0 refl;
    }

pub loop-rule-preserved : goal.loop-rule-preserved
loop-rule-preserved c =
    let N = (goal.at.loop-rule-preserved c).After-next_walk-walk in
    let B = begins_at N in
    let G = c.loop-after.invariant.going _ _ B.0 B.1 in
    let s = c.turn-turn.ensures.stays in
    let w = c.loop-after.invariant in
    let l = c.loop-rule.invariant in
    let O = rw c.in-Done.is at (c.turn-turn.ensures.leaving _ _ _ _ G) in
    let more = uses_trans w.words.uses_more s.uses_more in
    let a = c.next_walk-walk.ensures.1 in
    record {
      words = record {
        calls_long = s.calls_long ∙ w.words.calls_long ∙ a.long ∙ l.words.calls_long;
        list_long = s.list_long ∙ w.words.list_long ∙ l.words.list_long;
        answers_long = s.answers_long ∙ w.words.answers_long ∙ l.words.answers_long;
        kept = s.kept;
        indexed = s.indexed;
        uses_more = uses_trans l.words.uses_more (uses_trans (uses_trans (uses_same (marked_uses a c.loop-rule.list)) w.words.uses_more) s.uses_more);
      };
      stamped = O.stamped;
      rule_in = omega (arith, c.loop-rule-test.true, c.past_body-past.ensures.0);
      rows_in = omega (arith, l.rows_in, O.grew.calls_more);
      known_in = omega (arith, l.known_in, O.grew.answers_more);
      closed = λ roots begun R.
          (let Q = marked_at N roots begun (l.closed roots begun R) in
          let end = rw c.in-Done.is at (c.turn-turn.ensures.leaving _ _ _ _ (w.going roots begun (given_at N roots begun Q) Q.rows_closed.noted)) in
          rules_next _ _ _ Q (omega (arith, c.loop-row-test.true, c.span_of-span.ensures.spans.top_in)) c.number_of-number.ensures (words_at N) more end.made (λ x h k. end.latest x (omega (arith, Q.rows_closed.since.all_known)) k) end);
    }

pub loop-row-preserved : goal.loop-row-preserved
loop-row-preserved c =
    let l = c.loop-rule.invariant in
    let w = c.loop-row.invariant in
    record {
      words = record {
        calls_long = l.words.calls_long ∙ w.words.calls_long;
        list_long = l.words.list_long ∙ w.words.list_long;
        answers_long = l.words.answers_long ∙ w.words.answers_long;
        kept = l.words.kept;
        indexed = l.words.indexed;
        uses_more = uses_trans w.words.uses_more l.words.uses_more;
      };
      stamped = l.stamped;
      row_in = omega (arith, c.loop-row-test.true, c.span_of-span.ensures.spans.top_in);
      rows_in = l.rows_in;
      known_in = l.known_in;
      closed = λ roots S W.
          (let R₀ = w.closed roots S W in
          let R = l.closed roots _ R₀ in
          let same = R.rows_closed.since.made.grew.action_same {i = c.loop-row.row} (omega (arith, c.loop-row-test.true, c.span_of-span.ensures.spans.top_in, R₀.base_rows)) ∙ sym (R₀.since.made.grew.action_same {i = c.loop-row.row} (omega (arith, c.loop-row-test.true, c.span_of-span.ensures.spans.top_in, R₀.base_rows))) in
          rows_next _ _ _ (λ k a e. numbers_all c.args.rules.now c.args.goals.first c.args.goals.second c.args.goal.now c.args.second.now k a e)
          (rules_past _ _ _ R (λ k h m e. true_not_false (sym (rw (same, ← c.action_of-own.ensures) at e) ∙ c.past_body-past.ensures.1 k (omega (arith, c.loop-rule-test.false)) m))));
    }

pub returns : goal.returns
returns c =
    let l = c.loop-row.invariant in
    let b = c.span_of-span.ensures.begun in
    let R₀ = l.closed _ (round_kept _ _ (kept_same b.low) c.requires.standing.round) b.lit in
    record {
      calls_long = l.words.calls_long;
      list_long = l.words.list_long ∙ c.span_of-span.ensures.looks_alone.long;
      answers_long = l.words.answers_long;
      kept = l.words.kept;
      indexed = l.words.indexed;
      rows_in = λ _. l.rows_in;
      known_in = λ _. l.known_in;
      stamped = λ _. l.stamped;
      stale = λ k. omega (arith, l.words.uses_more.heats k, b.stale k);
      sooner = λ _. rows_sooner _ _ R₀;
      made = λ _. R₀.since.made;
      gathered = λ _ z. rows_gathered _ _ (rw z at R₀) c.loop-row-test.false;
      next = λ _ roots S.
          (let R = l.closed roots (round_kept _ _ (kept_same b.low) S) b.lit in
          (rows_round _ _ R c.loop-row-test.false, λ e. rows_finished _ _ R c.loop-row-test.false e));
      outgrown = λ e. absurd (true_not_false (sym e));
    }

pub returns-2 : goal.returns-2
returns-2 c =
    let N = (goal.at.returns-2 c).After-next_walk-walk in
    let s = c.turn-turn.ensures.stays in
    let w = c.loop-after.invariant.words in
    let l = c.loop-rule.invariant.words in
    let r = c.loop-row.invariant.words in
    let a = c.next_walk-walk.ensures.1 in
    let calls_at : length c.loop-after.calls ≡ length c.args.calls.now = w.calls_long ∙ a.long ∙ l.calls_long ∙ r.calls_long in
    let u = uses_trans r.uses_more (uses_trans l.uses_more (uses_trans (uses_trans (uses_same (marked_uses a c.loop-rule.list)) w.uses_more) s.uses_more)) in
    record {
      calls_long = s.calls_long ∙ calls_at;
      list_long = s.list_long ∙ w.list_long ∙ l.list_long ∙ r.list_long ∙ c.span_of-span.ensures.looks_alone.long;
      answers_long = s.answers_long ∙ w.answers_long ∙ l.answers_long ∙ r.answers_long;
      kept = s.kept;
      indexed = s.indexed;
      rows_in = λ e. absurd (true_not_false e);
      known_in = λ e. absurd (true_not_false e);
      stamped = λ e. absurd (true_not_false e);
      sooner = λ e. absurd (true_not_false e);
      made = λ e. absurd (true_not_false e);
      gathered = λ e. absurd (true_not_false e);
      stale = λ k. omega (arith, u.heats k, c.span_of-span.ensures.begun.stale k);
      next = λ e. absurd (true_not_false e);
      outgrown = λ _ roots S.
          (let R = rules_at N roots S in
          let O = rw c.in-Full.is at (c.turn-turn.ensures.leaving _ _ _ _ (c.loop-after.invariant.going roots _ (given_at N roots _ R) R.rows_closed.noted)) in
          rw calls_at at O);
    }
