-- `take_step` meets its contract, by the step's kind. Assumes nothing.
use native.Mathlib.Omega.{arith}
use mathlib.Core.Path.{sym, ◌∙◌}
use Rattle.unfolding.proofs.Walk.{leads_below}
use Rattle.unfolding.proofs.Sizes.{size_of}
use Rattle.path.proofs.walk.take_step.Goals as goal

pub after-next-requires : goal.after-next-requires
after-next-requires c = (c.requires.0, c.requires.2)

pub get-requires : goal.get-requires
get-requires c = omega (arith, leads_below (sym c.is_call.ensures ∙ c.if-is_call.true) c.after-next.ensures, c.requires.1)

pub returns-then-is_call : goal.returns-then-is_call
unfolding size_of
returns-then-is_call c = record { to = c.after-next.ensures; sized = rw (sym c.is_call.ensures ∙ c.if-is_call.true) c.get.ensures }

pub returns : goal.returns
unfolding size_of
returns c = record { to = c.after-next.ensures; sized = rw (sym c.is_call.ensures ∙ c.if-is_call.false) (c.shown.ensures _) }
