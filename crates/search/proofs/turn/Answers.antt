-- `turn` meets its contract: a step forward, and back where nothing is left. Assumes nothing.
use Prim.Native.Nat.{ℕ, ◌+◌, ◌-◌, ◌<◌, ◌≤◌}
use native.Mathlib.Omega.{arith}
use mathlib.Core.Path.{◌≡◌, ap, refl}
use mathlib.Core.List.{List}
use lib.ListN.{length}
use Rattle.invariants.proofs.Walking.{chosen_of}
use Rattle.tabling.proofs.Evidence.{Among}
use Rattle.tabling.proofs.Measure.{left}
use Rattle.invariants.proofs.Turn.{body_short}
use Rattle.invariants.proofs.Going.{going_fits, went_over, went_on}
use Rattle.invariants.proofs.Frames.{chosen_small}
use Rattle.search.specs.Leaving.{past_of}
use Rattle.search.proofs.turn.Goals as goal

pub overflow_sub-at : goal.overflow_sub-at
overflow_sub-at c = going_fits _ _ _ _ _ _ _ _ _ c.requires.by_index.4

pub advance-a-requires : goal.advance-a-requires
advance-a-requires c =
    let a = c.args in
    let j = a.job in
    let (bodies, roots, b, begun, G) = c.requires.by_index in
    let T = G.turning in
    let fits : length a.rest.now ≤ length a.body.now = going_fits _ _ _ _ _ _ _ _ _ G in
    let short : length a.body.now ≤ 16 = body_short _ _ _ _ _ _ j.walk _ _ T.given in
    let known_in : j.known ≤ a.m = omega (arith, T.given.enough, T.grew.answers_more) in
    let words = c.requires.kept.0.answers_open in
    let few : j.known ≤ 65536 = omega (arith, words.fits, words.small, words.long) in record {
      kept = (c.requires.kept.0, c.requires.kept.1, T.stamped, omega arith, known_in, omega (arith, T.given.row_in, T.grew.calls_more), c.requires.kept.2);
      q_bound = λ e q l.
          chosen_small bodies (Among roots) b j.known j.rule j.row j.walk (past_of j begun) a.body.now a.calls.now a.list.now a.n a.answers.now a.m T
          (omega arith) few q;
    }

pub go_back-requires : goal.go_back-requires
go_back-requires c =
    let (bodies, roots, b, begun, G) = c.requires.by_index in
    let T = (rw c.in-Spent.is at (c.advance-a.ensures.stepped bodies roots b begun _ G.tail G.turning)).0.turning in
    let short : length c.args.body.now ≤ 16 = body_short _ _ _ _ _ _ c.args.job.walk _ _ G.turning.given in
    let s = c.advance-a.ensures.stays in record {
      at_in_bounds = (T.walking.inside, omega (arith, T.walking.inside), chosen_of _ _ _ _ _ _ _ T.walking);
      by_index = (c.advance-a.result.answers, omega (arith, T.given.enough, T.grew.answers_more), s.kept.answers_open, (c.advance-a.new.calls, s.indexed.of_answers));
    }

pub returns-in-None : goal.returns-in-None
returns-in-None c =
    let j = c.args.job in
    let r = c.advance-a in record {
      stays = r.ensures.stays;
      leaving = λ bodies roots b begun G.
          went_over bodies (Among roots) b j.known j.rule j.row j.walk (past_of j begun) _ r.new.calls r.result.calls r.new.answers r.result.answers
          (rw c.in-Spent.is at (r.ensures.stepped bodies roots b begun _ G.tail G.turning)).0 c.in-None.ensures refl;
    }

pub returns-in-Some : goal.returns-in-Some
returns-in-Some c =
    let a = c.args in
    let j = a.job in
    let r = c.advance-a in record {
      stays = r.ensures.stays;
      leaving = λ bodies roots b begun G.
          (let S = rw c.in-Spent.is at (r.ensures.stepped bodies roots b begun _ G.tail G.turning) in
          let W = went_on bodies (Among roots) b j.known j.rule j.row j.walk (past_of j begun) _ r.new.calls r.result.calls r.new.answers r.result.answers S.0 c.in-Some.ensures.1 (c.in-Some.went.at - 1) (omega (arith, c.in-Some.ensures.0)) in
          (search W.0, omega (arith, W.1, ap (λ (l : List ℕ). left j.known l (length a.body.now - length a.rest.now)) S.1)));
    }

pub returns-in-On : goal.returns-in-On
returns-in-On c = record { stays = c.advance-a.ensures.stays; leaving = λ bodies roots b begun G. rw c.in-On.is at (c.advance-a.ensures.stepped bodies roots b begun _ G.tail G.turning) }

pub returns-in-Full : goal.returns-in-Full
returns-in-Full c = record { stays = c.advance-a.ensures.stays; leaving = λ bodies roots b begun G. rw c.in-Full.is at (c.advance-a.ensures.stepped bodies roots b begun _ G.tail G.turning) }
