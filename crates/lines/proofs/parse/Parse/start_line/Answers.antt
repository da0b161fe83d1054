-- `Parse::start_line` meets its contract. Assumes nothing.
use Rattle.std.proofs.Common.{sym, ◌∙◌, length}
use Rattle.chars.specs.Inner.{fields_from}
use Rattle.fields.proofs.Verdicts.{refused_with}
use Rattle.lines.specs.Kept.{reading_in}
use Rattle.lines.proofs.LineVerdicts.{start_line_refused, start_line_read}
use Rattle.lines.proofs.parse.Parse.start_line.Goals as goal

pub returns-in_err-self : goal.returns-in_err-self
returns-in_err-self c =
    λ words.
    let l = c.args.line.now in
    refused_with _ c.from_residual.result _ c.from_residual.ensures.1
    ∙ sym (start_line_refused (reading_in words c.args.self.now) (fields_from c.args.p (length l) l) _ (sym c.in_err-self.ensures))

pub returns : goal.returns
returns c =
    λ words.
    let l = c.args.line.now in
    sym (start_line_read (reading_in words c.args.self.now) (fields_from c.args.p (length l) l) _ (sym c.in_ok-self.ensures))
