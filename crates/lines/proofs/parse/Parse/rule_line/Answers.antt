-- `Parse::rule_line` meets its contract. Assumes nothing.
use Rattle.std.proofs.Common.{◌≡◌, sym, ap, ◌∙◌, [], ◌∷◌, ◌++◌, suc, ◌+◌, ◌*◌, length, drop, arith}
use Rattle.std.proofs.Math.Seq.{slice}
use Rattle.steps.specs.Widths.{rule_width}
use Rattle.chars.specs.Inner.{fields_from}
use Rattle.chars.proofs.Ends.{part_slice}
use Rattle.chars.proofs.Fields.{some_field}
use Rattle.fields.specs.Held.{steps_of}
use Rattle.fields.proofs.Verdicts.{refused_with}
use Rattle.fields.proofs.Bodies.{body_rule}
use Rattle.lines.specs.declared.Word.TheVariants.{Rule}
use Rattle.lines.specs.Kept.{reading_in, recorded, rules_in}
use Rattle.lines.proofs.LineVerdicts.{rule_head, rule_steps, rule_read}
use Rattle.lines.proofs.Rules.{rules_more}
use Rattle.lines.proofs.parse.Parse.rule_line.Goals as goal

pub field_end-q-requires : goal.field_end-q-requires
field_end-q-requires c = let l = c.args.line.now in (some_field l c.args.p (length l) c.requires.head, omega arith)

pub returns-in_err-head : goal.returns-in_err-head
returns-in_err-head c =
    let l = c.args.line.now in
    let k = reading_in c.args.words.now c.args.self.now in
    let f = c.field_end-q in
    let p = part_slice l c.args.p f.result f.ensures.from f.ensures.within in
    let u = rw p at (sym c.in_err-head.ensures.number) in
    refused_with _ c.from_residual.result _ c.from_residual.ensures.1
    ∙ sym (ap (recorded k Rule) f.ensures.cut ∙ rule_head k (slice c.args.p f.result l) (fields_from (f.result + 1) (length l) l) _ u)

pub returns-in_err-body : goal.returns-in_err-body
returns-in_err-body c =
    let l = c.args.line.now in
    let k = reading_in c.args.words.now c.args.self.now in
    let f = c.field_end-q in
    let r = c.from_residual-in_err-body in
    let p = part_slice l c.args.p f.result f.ensures.from f.ensures.within in
    let u = rw p at (sym c.in_ok-head.ensures.number) in
    refused_with _ r.result _ r.ensures.1
    ∙ sym (ap (recorded k Rule) f.ensures.cut
    ∙ rule_steps k (slice c.args.p f.result l) (fields_from (f.result + 1) (length l) l) c.in_ok-head.head u _ (sym c.in_err-body.ensures))

pub returns : goal.returns
returns c =
    let l = c.args.line.now in
    let w = c.args.words.now in
    let b = c.args.self.now in
    let k = reading_in w b in
    let f = c.field_end-q in
    let h = c.in_ok-head.head in
    let body = c.in_ok-body.body in
    let p = part_slice l c.args.p f.result f.ensures.from f.ensures.within in
    let u = rw p at (sym c.in_ok-head.ensures.number) in
    let v = rule_read k (slice c.args.p f.result l) (fields_from (f.result + 1) (length l) l) h u (steps_of body) (sym c.in_ok-body.ensures) in
    let m : length body.words ≡ 16 = body.size in
    let few = c.requires.room in
    let size = c.requires.words_len in
    let t = rules_more w (h ∷ body.len ∷ body.words) (drop (rule_width * b.rules + rule_width) w) b.rules (ap (λ j. suc (suc j)) m) (omega arith) in
    let e = ap (λ x. rules_in x (b.rules + 1)) c.put_rule.ensures ∙ t ∙ ap (λ x. rules_in w b.rules ++ (x ∷ [])) (body_rule h body) in
    rw e (sym (ap (recorded k Rule) f.ensures.cut ∙ v))
