-- `Parse::plain_line` meets its contract: the line's head, then its fields by its word. Assumes nothing.
use Rattle.std.proofs.Common.{◌≡◌, refl, sym, ap, ◌∙◌, List, [], ◌∷◌, ℕ, ◌+◌, ◌-◌, length, take, drop, arith}
use Rattle.std.proofs.Math.Seq.{take-length}
use Rattle.chars.specs.Inner.{fields_from, FieldEnd}
use Rattle.chars.proofs.Ends.{part_slice}
use Rattle.chars.proofs.Fields.{one_field, some_field}
use Rattle.fields.specs.Verdict.{refuse, accept}
use Rattle.fields.proofs.Verdicts.{refused_with}
use Rattle.fields.proofs.NamePlaces.{row_length}
use Rattle.lines.specs.declared.Stage.{Stage}
use Rattle.lines.specs.declared.Stage.TheVariants.{Fluents, Actions, Rules, End}
use Rattle.lines.specs.declared.Word.{Word}
use Rattle.lines.specs.declared.Word.TheVariants.{Fluent, Action, Rule, Start, Goal, Other}
use Rattle.lines.specs.Line.{Reading, word_of, line_of, plain_line}
use Rattle.lines.specs.Kept.{stage_row, line_head, reading_in, recorded}
use Rattle.lines.proofs.LineHeads.{fluent_room, action_room, rule_room, goal_room, other_never}
use Rattle.lines.proofs.LineVerdicts.{plain_fields, line_stopped, line_passed}
use Rattle.lines.proofs.Rules.{rules_length}
use Rattle.lines.proofs.parse.Parse.plain_line.Goals as goal
use Rattle.lines.proofs.parse.Parse.plain_line.Goals.{In_ok-check_head}

-- the reading k and the line l, whose word ends at q and is v, with n fields after it
module _ (k : Reading) (l : List ℕ) (q : ℕ) (v : Word) (n : ℕ) (f : FieldEnd l 0 (length l) q)
    (w : v ≡ word_of (take q l)) (c : n ≡ length (fields_from (q + 1) (length l) l)) where
  whole : plain_line k l ≡ line_of k v (fields_from (q + 1) (length l) l)
  whole =
      ap (plain_line k) (sym (take-length l)) ∙ plain_fields k l 0 (length l) q (omega arith) f
      ∙ ap (λ x. line_of k x (fields_from (q + 1) (length l) l)) (sym w)

  stops : (r : ℕ) → refuse r ≡ line_head k v n → plain_line k l ≡ refuse r
  stops r h = whole ∙ line_stopped k v (fields_from (q + 1) (length l) l) r (rw c at (sym h))

  -- where the head is not refused: what it says, and the line by its word
  goes : accept tt ≡ line_head k v n → (y : Word) → v ≡ y
      → (line_head k y (length (fields_from (q + 1) (length l) l)) ≡ accept tt) × (plain_line k l ≡ recorded k y (fields_from (q + 1) (length l) l))
  goes h y t =
      let g = rw c at (sym h) in
      let p : line_head k y (length (fields_from (q + 1) (length l) l)) ≡ accept tt = rw (← t) g in
      (p, whole ∙ ap (λ x. line_of k x (fields_from (q + 1) (length l) l)) t ∙ line_passed k y (fields_from (q + 1) (length l) l) p)

-- a line's only field, as code takes it
only : (l : List ℕ) (p : ℕ) → length (fields_from p (length l) l) ≡ 1 → fields_from p (length l) l ≡ take (length l - p) (drop p l) ∷ []
only l p e =
    one_field l p (length l) (omega arith) e
    ∙ ap (λ x. x ∷ []) (sym (part_slice l p (length l) (some_field l p (length l) (omega arith)) (omega arith)))

-- no other stage has the place of the first
first_stage : (stage : Stage) → stage_row stage ≡ 0 → stage ≡ Fluents
first_stage Fluents h = refl
first_stage Actions h = absurd (omega arith)
first_stage Rules h = absurd (omega arith)
first_stage Stage.Start h = absurd (omega arith)
first_stage Stage.Goal h = absurd (omega arith)
first_stage End h = absurd (omega arith)

-- what the arms of the match share
arm : (c : In_ok-check_head) (y : Word) → c.of-w.result ≡ y
    → (line_head (reading_in c.args.words.now c.args.self.now) y (length (fields_from (c.field_end-q.result + 1) (length c.args.line.now) c.args.line.now)) ≡ accept tt)
    × (plain_line (reading_in c.args.words.now c.args.self.now) c.args.line.now
    ≡ recorded (reading_in c.args.words.now c.args.self.now) y (fields_from (c.field_end-q.result + 1) (length c.args.line.now) c.args.line.now))
arm c y t =
    let k = reading_in c.args.words.now c.args.self.now in
    goes k c.args.line.now c.field_end-q.result c.of-w.result c.count_fields.result c.field_end-q.ensures c.of-w.ensures c.count_fields.ensures
    (c.in_ok-check_head.ensures c.args.words.now) y t

pub returns-in_err-check_head : goal.returns-in_err-check_head
returns-in_err-check_head c =
    let k = reading_in c.args.words.now c.args.self.now in
    refused_with _ c.from_residual.result _ c.from_residual.ensures.1
    ∙ sym (stops k c.args.line.now c.field_end-q.result c.of-w.result c.count_fields.result c.field_end-q.ensures c.of-w.ensures c.count_fields.ensures _
    (c.in_err-check_head.ensures c.args.words.now))

pub slice_bounds-fluent_line-count : goal.slice_bounds-fluent_line-count
slice_bounds-fluent_line-count c =
    let l = c.args.line.now in
    let p = fluent_room (reading_in c.args.words.now c.args.self.now) _ (arm (goal.at.slice_bounds-fluent_line-count c).In_ok-check_head Fluent c.in-Fluent.is).0 in
    some_field l (c.field_end-q.result + 1) (length l) (omega (arith, p.2))

pub slice_bounds-fluent_line-start : goal.slice_bounds-fluent_line-start
slice_bounds-fluent_line-start c =
    let l = c.args.line.now in
    let p = fluent_room (reading_in c.args.words.now c.args.self.now) _ (arm (goal.at.slice_bounds-fluent_line-start c).In_ok-check_head Fluent c.in-Fluent.is).0 in
    some_field l (c.field_end-q.result + 1) (length l) (omega (arith, p.2))

pub fluent_line-requires : goal.fluent_line-requires
fluent_line-requires c =
    let p = fluent_room (reading_in c.args.words.now c.args.self.now) _ (arm (goal.at.fluent_line-requires c).In_ok-check_head Fluent c.in-Fluent.is).0 in
    record { room = rw row_length at p.1; first = first_stage c.args.self.now.stage p.0 }

pub slice_bounds-action_line-count : goal.slice_bounds-action_line-count
slice_bounds-action_line-count c =
    let l = c.args.line.now in
    let p = action_room (reading_in c.args.words.now c.args.self.now) _ (arm (goal.at.slice_bounds-action_line-count c).In_ok-check_head Action c.in-Action.is).0 in
    some_field l (c.field_end-q.result + 1) (length l) (omega (arith, p.1))

pub slice_bounds-action_line-start : goal.slice_bounds-action_line-start
slice_bounds-action_line-start c =
    let l = c.args.line.now in
    let p = action_room (reading_in c.args.words.now c.args.self.now) _ (arm (goal.at.slice_bounds-action_line-start c).In_ok-check_head Action c.in-Action.is).0 in
    some_field l (c.field_end-q.result + 1) (length l) (omega (arith, p.1))

pub action_line-requires : goal.action_line-requires
action_line-requires c =
    let p = action_room (reading_in c.args.words.now c.args.self.now) _ (arm (goal.at.action_line-requires c).In_ok-check_head Action c.in-Action.is).0 in
    rw row_length at p.0

pub rule_line-requires : goal.rule_line-requires
rule_line-requires c =
    let p = rule_room (reading_in c.args.words.now c.args.self.now) _ (arm (goal.at.rule_line-requires c).In_ok-check_head Rule c.in-Rule.is).0 in
    record { room = rw rules_length at p.0; head = p.1; few = p.2; words_len = c.requires }

pub goal_line-requires-clause-few : goal.goal_line-requires-clause-few
goal_line-requires-clause-few c =
    goal_room (reading_in c.args.words.now c.args.self.now) _ (arm (goal.at.goal_line-requires-clause-few c).In_ok-check_head Goal c.in-Goal.is).0

pub returns-in-Fluent : goal.returns-in-Fluent
returns-in-Fluent c =
    let k = reading_in c.args.words.now c.args.self.now in
    let p = arm (goal.at.returns-in-Fluent c).In_ok-check_head Fluent c.in-Fluent.is in
    let o = only c.args.line.now (c.field_end-q.result + 1) (fluent_room k _ p.0).2 in
    c.fluent_line.ensures c.args.words.now ∙ sym (p.1 ∙ ap (recorded k Fluent) o)

pub returns-in-Action : goal.returns-in-Action
returns-in-Action c =
    let k = reading_in c.args.words.now c.args.self.now in
    let p = arm (goal.at.returns-in-Action c).In_ok-check_head Action c.in-Action.is in
    let o = only c.args.line.now (c.field_end-q.result + 1) (action_room k _ p.0).1 in
    c.action_line.ensures c.args.words.now ∙ sym (p.1 ∙ ap (recorded k Action) o)

pub returns-in-Rule : goal.returns-in-Rule
returns-in-Rule c = c.rule_line.ensures ∙ sym (arm (goal.at.returns-in-Rule c).In_ok-check_head Rule c.in-Rule.is).1

pub returns-in-Start : goal.returns-in-Start
returns-in-Start c = c.start_line.ensures c.args.words.now ∙ sym (arm (goal.at.returns-in-Start c).In_ok-check_head Start c.in-Start.is).1

pub returns-in-Goal : goal.returns-in-Goal
returns-in-Goal c = c.goal_line.ensures c.args.words.now ∙ sym (arm (goal.at.returns-in-Goal c).In_ok-check_head Goal c.in-Goal.is).1

pub returns-in-Other : goal.returns-in-Other
returns-in-Other c =
    absurd (other_never (reading_in c.args.words.now c.args.self.now) _ (arm (goal.at.returns-in-Other c).In_ok-check_head Other c.in-Other.is).0)
