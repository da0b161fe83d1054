-- `Parse::action_line` meets its contract. Assumes nothing.
use Rattle.std.proofs.Common.{sym, ◌∙◌}
use Rattle.fields.proofs.Verdicts.{refused_with}
use Rattle.lines.specs.Kept.{reading_in}
use Rattle.lines.proofs.LineVerdicts.{action_refused, action_read}
use Rattle.lines.proofs.parse.Parse.action_line.Goals as goal

pub returns-in_err-may_define : goal.returns-in_err-may_define
returns-in_err-may_define c =
    λ words.
    refused_with _ c.from_residual.result _ c.from_residual.ensures.1
    ∙ sym (action_refused (reading_in words c.args.self.now) c.args.name.now _ (sym c.in_err-may_define.ensures))

pub returns : goal.returns
returns c =
    λ words. rw c.push.ensures (sym (action_read (reading_in words c.args.self.now) c.args.name.now (sym c.in_ok-may_define.ensures)))
