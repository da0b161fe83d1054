-- `advance` meets its contract: the body's end, a call or an elementary step. Assumes nothing.
use native.Mathlib.Omega.{arith}
use mathlib.Core.Path.{◌≡◌, refl, sym, ap, ◌∙◌}
use mathlib.Core.Bool.{true, false}
use lib.ListN.{get_or, set}
use lib.Seq.{get_or-set_other}
use Rattle.steps.specs.Inner.{is_call}
use Rattle.steps.specs.Next.{onward}
use Rattle.tabling.proofs.Evidence.{Among}
use Rattle.uses.proofs.UsesLaws.{uses_refl}
use Rattle.tabling.proofs.Measure.{left_on}
use Rattle.invariants.proofs.Turn.{turn_forward, turn_stuck}
use Rattle.invariants.proofs.Going.{tail_some, tail_none, tail_word}
use Rattle.search.specs.Leaving.{past_of}
use Rattle.search.proofs.advance.Goals as goal

pub finish-requires : goal.finish-requires
finish-requires c = record { kept = (c.requires.kept.0, c.requires.kept.1, c.requires.kept.5); by_index = c.requires.q_bound (omega (arith, c.if-rest-eq0.true)) }

pub returns-then-rest-eq0 : goal.returns-then-rest-eq0
returns-then-rest-eq0 c =
    let f = c.finish.ensures in
    let a = c.args in record { stays = f.stays.0; stepped = λ bodies roots b begun body q T. rw f.stays.1 (f.stepped bodies roots b begun body a.at (tail_none a.rest.now body a.at q (omega (arith, c.if-rest-eq0.true))) T) }

pub enter-requires : goal.enter-requires
enter-requires c = (c.requires.kept.0, c.requires.kept.1, c.requires.kept.2, omega (arith, c.requires.kept.3, c.if-rest-eq0.false), c.requires.kept.4, c.requires.kept.5, c.requires.kept.6)

pub returns-then-is_call : goal.returns-then-is_call
returns-then-is_call c =
    let f = c.enter.ensures in
    let a = c.args in
    let yes : is_call (get_or a.rest.now 0 0) ≡ true = sym c.is_call.ensures ∙ c.if-is_call.true in record {
      stays = f.stays.0;
      stepped = λ bodies roots b begun body q T.
          (let w = tail_word a.rest.now body a.at q in
          rw f.stays.1 (f.stepped bodies roots b begun body (tail_some a.rest.now body a.at q (omega (arith, c.if-rest-eq0.false))) (rw w at yes) (sym w) q T));
    }

pub returns-in-Some : goal.returns-in-Some
unfolding onward
returns-in-Some c =
    let a = c.args in
    let j = a.job in
    let went = sym c.in-Some.ensures in record {
      stays = record { calls_long = refl; list_long = refl; answers_long = refl; kept = c.requires.kept.0; indexed = c.requires.kept.1; uses_more = uses_refl _ };
      stepped = λ bodies roots b begun body q T.
          (let h = tail_some a.rest.now body a.at q (omega (arith, c.if-rest-eq0.false)) in (
            turn_forward bodies (Among roots) b j.known j.rule j.row j.walk (past_of j begun) body T h (rw (tail_word a.rest.now body a.at q) at went),
            left_on j.known a.chosen.now (set a.chosen.now a.at 0) a.at a.at (λ q l. get_or-set_other a.chosen.now a.at q 0 0 (omega arith)) (omega (arith, c.requires.kept.3, c.if-rest-eq0.false)) refl,
          ));
    }

pub returns-in-None : goal.returns-in-None
unfolding onward
returns-in-None c =
    let a = c.args in
    let j = a.job in
    let went = sym c.in-None.ensures in
    let no : is_call (get_or a.rest.now 0 0) ≡ false = sym c.is_call.ensures ∙ c.if-is_call.false in record {
      stays = record { calls_long = refl; list_long = refl; answers_long = refl; kept = c.requires.kept.0; indexed = c.requires.kept.1; uses_more = uses_refl _ };
      stepped = λ bodies roots b begun body q T.
          (let w = tail_word a.rest.now body a.at q in
          (turn_stuck bodies (Among roots) b j.known j.rule j.row j.walk (past_of j begun) body T (tail_some a.rest.now body a.at q (omega (arith, c.if-rest-eq0.false))) (rw w at no) (rw w at went), refl));
    }
