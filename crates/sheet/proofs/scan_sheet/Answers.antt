-- `scan_sheet` meets its contract: the whole sheet, its lines, its end. Assumes nothing.
use mathlib.Core.Bool.{true≢false}
use Rattle.std.proofs.Common.{◌≡◌, List, ℕ, Result, refl, sym, ap, ◌∙◌, arith}
use Rattle.std.specs.Result.{IsErrAnd}
use Rattle.std.proofs.lemmas.Result.{err_from_is_err_and}
use Rattle.refusals.specs.Sheet.{sheet_refusals}
use Rattle.refusals.specs.Number.{number_of}
use Rattle.lines.specs.declared.Fault.{Fault}
use Rattle.lines.specs.declared.Stage.{Stage}
use Rattle.lines.specs.declared.Stage.TheVariants.{Fluents, Actions, Rules, Start, Goal, End}
use Rattle.lines.specs.declared.parse.Parse.{Parse}
use Rattle.lines.specs.Reader.{read_sheet, refused}
use Rattle.lines.specs.Kept.{reading_in, stage_row}
use Rattle.sheet.specs.Inner.{outcome_of}
use Rattle.sheet.proofs.Results.{sheet_fault, sheet_lines, sheet_read, sheet_no_start, sheet_no_goal}
use Rattle.sheet.proofs.scan_sheet.Goals as goal
use Rattle.sheet.proofs.scan_sheet.Goals.{else-said-via-then-said+else-matches, in-End, in_default, else-said-via-else-said}

-- what the exit of a `?` gives
faulty : (w : List ℕ) (r : Result Parse Fault) (f : Fault) → IsErrAnd r (λ y. y ≡ f) → outcome_of w r ≡ refused (number_of f.refusal) f.line
faulty w r f h = let p = err_from_is_err_and r h in rw (p.1, p.2)

pub returns-in_err-check_whole : goal.returns-in_err-check_whole
returns-in_err-check_whole c =
    faulty _ c.from_residual.result _ c.from_residual.ensures.1 ∙ sym (sheet_fault c.args.s.now _ (sym c.in_err-check_whole.ensures))

pub returns-in_err-said : goal.returns-in_err-said
returns-in_err-said c =
    let r = c.from_residual-in_err-said in
    faulty _ r.result _ r.ensures.1 ∙ c.in_err-said.ensures.outcome ∙ sym (sheet_lines c.args.s.now (sym c.in_ok-check_whole.ensures))

-- no other stage has the place of the end
end_of : (stage : Stage) → stage_row stage ≡ 5 → stage ≡ End
end_of Fluents h = absurd (omega arith)
end_of Actions h = absurd (omega arith)
end_of Rules h = absurd (omega arith)
end_of Start h = absurd (omega arith)
end_of Goal h = absurd (omega arith)
end_of End h = refl

pub returns-then-matches : goal.returns-then-matches
returns-then-matches c =
    let r = reading_in c.read_lines.new.words c.in_ok-said.said in
    elim c.match-matches.branch [
      | in-End w ↦ sym (sheet_read c.args.s.now (sym c.in_ok-check_whole.ensures) r (sym c.in_ok-said.ensures.outcome) c.if-said.true (ap stage_row w.in-End.is))
      | in_default w ↦ absurd cc
    ]

pub returns : goal.returns
returns c =
    let s = c.args.s.now in
    let h = sym c.in_ok-check_whole.ensures in
    let r = reading_in c.read_lines.new.words c.in_ok-said.said in
    let e = sym c.in_ok-said.ensures.outcome in
    let o : read_sheet s ≡ refused sheet_refusals.incomplete 0 =
    elim c.else-said.branch [
      | else-said-via-then-said+else-matches w ↦
          elim w.match-matches.branch [
            | in-End v ↦ absurd (true≢false (sym v.matches-is ∙ w.if-matches.false))
            | in_default v ↦ sheet_no_goal s h r e (λ x. v.in_default.not-End (end_of c.in_ok-said.said.stage x))
          ]
      | else-said-via-else-said w ↦ sheet_no_start s h r e w.if-said.false
    ] in
    ap (λ f. refused (number_of f.refusal) f.line) c.from.ensures ∙ sym o
