use Prim.Native.Nat.{ℕ, ◌+◌, ◌-◌, ◌*◌, ◌<◌, min}
use native.Mathlib.Omega.{arith}
use mathlib.Core.Path.{◌≡◌, refl, sym, ◌∙◌}
use mathlib.Core.Bool.{false}
use lib.ListN.{get_or}
use Rattle.steps.proofs.EachBelow.{true_not_false}
use Rattle.desk.specs.Desk.{packed_answers, packed_width}
use Rattle.uses.specs.Uses.{uses_in, heat, start, Heating}
use Rattle.uses.proofs.HeatLaws.{look_other, heat_start, heat_stop, heat_none, heat_done, heat_next}
use Rattle.uses.proofs.NoteLaws.{looks_trans}
use Rattle.uses.proofs.look_before.Goals as goal

pub returns-then-heat_of-x-clause-looked : goal.returns-then-heat_of-x-clause-looked
returns-then-heat_of-x-clause-looked c = λ u L. look_other L (λ e. c.if-heat_of-x.true (c.heat_of.ensures.0 ∙ rw c.call_of-first.ensures e))

pub back-init : goal.back-init
back-init c = record { heating = λ u L. rw (c.via_of-via.ensures.0, c.call_of-first.ensures) (heat_start L); looks = record { long = refl; links = λ i. refl; heads = λ i. refl } }

pub returns-then-via-eq0-clause-looked : goal.returns-then-via-eq0-clause-looked
returns-then-via-eq0-clause-looked c = λ u L. heat_none (c.back.invariant.heating u L) c.if-via-eq0.true

pub returns-then-most-via-clause-looked : goal.returns-then-most-via-clause-looked
returns-then-most-via-clause-looked c = λ u L. heat_stop false (c.back.invariant.heating u L) (λ e. true_not_false (sym e))

pub returns-then-seen-heat-clause-looked : goal.returns-then-seen-heat-clause-looked
returns-then-seen-heat-clause-looked c =
    let a = c.args in
    let l = c.back in
    let U = uses_in a.calls.now l.list in
    let y : ℕ = l.via - 1 in
    let z : l.via ≡ y + 1 = omega arith in
    let below : y < min a.known 65534 = omega arith in
    let e = c.call_of-k.ensures in
    let row : get_or a.answers.now (packed_width * y) 0 < a.rows = c.requires.0.inside y (omega (arith, below)) in
    let small : get_or a.answers.now (packed_width * y) 0 < 65536 = omega (arith, row, c.requires.0.small) in
    let h : c.heat_of-heat.result ≡ heat U (get_or a.answers.now (packed_width * y) 0) = rw e at c.heat_of-heat.ensures.0 in
    let s : c.start_of.result ≡ start U (get_or a.answers.now (packed_width * y) 0) = rw e at c.start_of.ensures.0 in
    let lit = c.if-seen-heat.true in λ u L.
    (let H : Heating (packed_answers a.answers.now a.known) u U a.seen a.known a.x (y + 1) = rw z at (l.invariant.heating u L) in
    heat_done H below small (rw e at (c.put_start.ensures.start_put a.calls.now)) (omega arith) lit (λ m. rw h (H.most m _)) (λ _. omega (arith, s)) (λ _. h) (rw h at lit))

pub back-preserved : goal.back-preserved
back-preserved c =
    let a = c.args in
    let l = c.back in
    let U = uses_in a.calls.now l.list in
    let y : ℕ = l.via - 1 in
    let z : l.via ≡ y + 1 = omega arith in
    let below : y < min a.known 65534 = omega arith in
    let e = c.call_of-k.ensures in
    let row : get_or a.answers.now (packed_width * y) 0 < a.rows = c.requires.0.inside y (omega (arith, below)) in
    let small : get_or a.answers.now (packed_width * y) 0 < 65536 = omega (arith, row, c.requires.0.small) in
    let h : c.heat_of-heat.result ≡ heat U (get_or a.answers.now (packed_width * y) 0) = rw e at c.heat_of-heat.ensures.0 in
    let unlit = c.if-seen-heat.false in record {
      heating = λ u L.
          (let H : Heating (packed_answers a.answers.now a.known) u U a.seen a.known a.x (y + 1) = rw z at (l.invariant.heating u L) in
          rw (c.via_of-via-in-back.ensures.0, e) (heat_next H below small (rw e at (c.put_start-in-back.ensures.start_put a.calls.now)) (omega arith) (omega (arith, c.requires.1)) (λ m. omega (arith, c.requires.2)) (λ w. absurd (omega (arith, w, h, unlit))) (λ w. absurd (omega (arith, w, h, unlit)))));
      looks = looks_trans l.invariant.looks c.put_start-in-back.ensures.looks_alone;
    }

pub returns-clause-looked : goal.returns-clause-looked
returns-clause-looked c = λ u L. heat_stop false (c.back.invariant.heating u L) (λ e. true_not_false (sym e))
