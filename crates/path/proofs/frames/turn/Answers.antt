-- `turn` meets its contract: down with a frame more, or up with one fewer. Assumes nothing.
use native.Mathlib.Omega.{arith}
use mathlib.Core.Path.{refl, ap}
use Rattle.unfolding.proofs.Frames.{down, up}
use Rattle.path.specs.Inner.{down_to}
use Rattle.path.proofs.frames.turn.Goals as goal

pub returns-in-Some : goal.returns-in-Some
returns-in-Some c = down (ap down_to c.in-Some.is) refl refl c.put.ensures

pub returns : goal.returns
returns c = up (ap down_to c.in_default.is) (omega (arith, c.if-depth-eq0.false)) (rw c.get-frame.ensures refl) (rw c.get-frame.ensures refl) refl
