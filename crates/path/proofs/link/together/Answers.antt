-- `together` meets its contract. Assumes nothing.
use mathlib.Core.Path.{refl, ap}
use Rattle.path.specs.Inner.{down_to}
use Rattle.unfolding.proofs.Leads.{second_only, first_only, both_parts}
use Rattle.path.proofs.link.together.Goals as goal

pub returns-in-None : goal.returns-in-None
returns-in-None c = second_only (ap down_to c.in-None.is) refl

pub returns-in-None-second : goal.returns-in-None-second
returns-in-None-second c = first_only (ap down_to c.in-None-second.is) refl

pub returns-in-Some-second : goal.returns-in-Some-second
returns-in-Some-second c = both_parts refl
