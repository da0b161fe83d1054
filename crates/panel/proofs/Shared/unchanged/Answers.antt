-- `unchanged` meets its contract. Assumes nothing.
use mathlib.Core.Path.{ap, ◌∙◌}
use Rattle.refusals.specs.Number.{number_of}
use Rattle.sharing.specs.Shared.{refused}
use Rattle.panel.proofs.Shared.unchanged.Goals as goal

pub returns : goal.returns
returns c = c.refused.ensures ∙ ap (refused (number_of c.args.refusal)) c.handed_back.ensures
