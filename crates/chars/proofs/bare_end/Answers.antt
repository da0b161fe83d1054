-- `bare_end` meets its contract, by the part's last byte. Assumes nothing.
use Rattle.std.proofs.Common.{◌≡◌, subst, arith}
use Rattle.chars.specs.Inner.{BareEnd}
use Rattle.chars.proofs.Bare.{bare_cr, bare_other, bare_empty}
use Rattle.chars.proofs.bare_end.Goals as goal
use Rattle.chars.proofs.bare_end.Goals.{else-at-to-via-then-at-to+else-s-to-eq13, else-at-to-via-else-at-to}

pub returns-then-s-to-eq13 : goal.returns-then-s-to-eq13
returns-then-s-to-eq13 c =
    let a = c.args in bare_cr a.s.now a.at a.to (omega arith) (omega arith) c.if-s-to-eq13.true

pub returns-else-at-to : goal.returns-else-at-to
returns-else-at-to c =
    let a = c.args in
    elim c.else-at-to.branch [
      | else-at-to-via-then-at-to+else-s-to-eq13 w ↦ bare_other a.s.now a.at a.to (omega arith) (omega arith) w.if-s-to-eq13.false
      | else-at-to-via-else-at-to w ↦
          let e : a.at ≡ a.to = omega arith in subst (λ n. BareEnd a.s.now a.at n n) e (bare_empty a.s.now a.at)
    ]
