-- Tables whose records' numbers stand for their rounds: what is closed stays closed, and an answer that was justified is, since it names earlier
-- ones alone. Assumes nothing.
use Prim.Native.Nat.{ℕ, suc, ◌<◌}
use mathlib.Core.Path.{◌≡◌}
use mathlib.Core.List.{List}
use lib.ListN.{get_or}
use Rattle.steps.specs.State.{State}
use Rattle.steps.specs.Step.{Step, Body}
use Rattle.records.specs.Records.{Calls, Answers, Bodies}
use Rattle.records.specs.Storage.{CallAt, AnswerAt}
use Rattle.records.proofs.Growth.{Tables, tables, HeldCall, Held}
use Rattle.records.proofs.Justification.{Follow, names, steps, Follows, ends, goes, Justified}
use Rattle.tabling.proofs.Sweep.{swept_back}
use Rattle.tabling.proofs.Graph as graph
use Rattle.tabling.proofs.Evidence.{Valid}
use Rattle.tabling.proofs.Moves.{Of, final, move}
use Rattle.tabling.proofs.Closed.{ClosedAt, Whole}

module _ (t : Tables) where
  -- The same records, with their numbers for rounds.
  abbrev pub numbered : Tables
  numbered = let c = t.calls in let a = t.answers in tables
      (record { count = c.count; action = c.action; state = c.state; round = λ i. i })
      (record { count = a.count; call = a.call; final = a.final; rule = a.rule; evidence = a.evidence; round = λ x. x })

  held_call_now : (c : ℕ × State) → HeldCall t c → HeldCall numbered c
  held_call_now c (i, l, h) = (i, l, record { has_action = h.has_action; has_state = h.has_state })

  held_now : (row : ℕ) (f : State) → Held t row f → Held numbered row f
  held_now row f (x, l, h) = (x, l, record { has_call = h.has_call; has_final = h.has_final })

  module _ (known : ℕ) where
    leads_was : (f : graph.Front State (ℕ × State)) (x : ℕ) (s : State) → graph.Leads (Of numbered known) (final numbered) f x s → graph.Leads (Of t known) (final t) f x s
    leads_was graph.stuck x s e = e
    leads_was (graph.goes u) x s e = e
    leads_was (graph.calls c) x s (o, e) = (record { below = o.below; action = o.action; state = o.state }, e)

    known_now : (f : graph.Front State (ℕ × State)) → graph.Known (HeldCall t) f → graph.Known (HeldCall numbered) f
    known_now graph.stuck k = k
    known_now (graph.goes u) k = k
    known_now (graph.calls c) k = held_call_now c k

    closed_numbered : (body : List ℕ) (row : ℕ) → ClosedAt body t known row → ClosedAt body numbered known row
    closed_numbered body row k = swept_back (λ q s x u e. (e.0, leads_was (move (get_or body q 0) s) x u e.1))
        (λ q s w. record { ends = λ e. held_now row s (w.ends e); called = λ h. known_now (move (get_or body q 0) s) (w.called h) }) k

  module _ (n : ℕ) where
    follow_now : {x : Step} {s : State} {e : ℕ} {s' : State} → Follow t n x s e s' → Follow numbered n x s e s'
    follow_now (names l r a b) = names l l a b
    follow_now (steps d) = steps d

    follows_now : {xs : Body} {q : ℕ} {s : State} → Follows t n xs q s → Follows numbered n xs q s
    follows_now (ends e z) = ends e z
    follows_now (goes f w) = goes (follow_now f) (follows_now w)

  module _ {bodies : Bodies} {Root : ℕ → State → Type 0} where
    pub whole_numbered : {first : ℕ} → Whole bodies Root first t → Whole bodies Root first numbered
    whole_numbered W = record {
      valid = record {
        roots = λ a D r. held_call_now (a, D) (W.valid.roots a D r);
        calls_once = λ i j a D l k x y. W.valid.calls_once i j a D l k (record { has_action = x.has_action; has_state = x.has_state }) (record { has_action = y.has_action; has_state = y.has_state });
        answers_once = λ x y row f l k u v. W.valid.answers_once x y row f l k (record { has_call = u.has_call; has_final = u.has_final }) (record { has_call = v.has_call; has_final = v.has_final });
        reached = W.valid.reached;
        justified = λ x l. (let j = W.valid.justified x l in record { exists = j.exists; fits = j.fits; followed = follows_now x j.followed });
      };
      closed = λ r f l i e. closed_numbered t.answers.count (bodies.words i (t.calls.action r)) r (W.closed r f l i e);
    }
