-- `goes_on` meets its contract. Assumes nothing.
use native.Mathlib.Omega.{arith}
use mathlib.Core.Path.{sym, ap, ◌∙◌}
use Rattle.steps.proofs.EachBelow.{true_not_false}
use Rattle.steps.specs.Next.{onward}
use Rattle.filling.proofs.goes_on.Goals as goal

pub returns-then-body-eq0 : goal.returns-then-body-eq0
returns-then-body-eq0 c = λ e. (absurd (true_not_false e))

pub returns-then-is_call : goal.returns-then-is_call
returns-then-is_call c = λ e. (absurd (true_not_false e))

pub returns-in-Some : goal.returns-in-Some
returns-in-Some c = λ e. (absurd (true_not_false e))

pub returns-in-None : goal.returns-in-None
unfolding onward
returns-in-None c =
    λ _. record {
      some = omega (arith, c.if-body-eq0.false);
      plain = sym c.is_call.ensures ∙ c.if-is_call.false;
      ends = sym c.elementary.ensures ∙ ap onward c.in-None.is;
    }
