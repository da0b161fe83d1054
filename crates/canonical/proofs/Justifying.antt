-- The rows after each round: every answer is justified by records of smaller number and round, every call is reached. Assumes nothing.
use Prim.Native.Nat.{ℕ, zero, suc, ◌+◌, ◌-◌, ◌/◌, ◌%◌, ◌<◌, ◌≤◌}
use native.Mathlib.Omega.{arith}
use mathlib.Core.Path.{◌≡◌, refl, sym, ap, subst, ◌∙◌}
use mathlib.Core.Bool.{true}
use mathlib.Core.List.Memᴰ
use mathlib.Core.List.{List, [], ◌∷◌, Memᴰ}
use mathlib.Core.Logic.{◌⊎◌, inl, inr}
use lib.ListN.{get_or, length}
use Rattle.steps.specs.State.{State}
use Rattle.steps.specs.Step.{Step, query, insert, delete, call, deny, Body}
use Rattle.steps.specs.Run.{Goal}
use Rattle.steps.specs.Words.{body_of}
use Rattle.steps.specs.Widths.{rule_width}
use Rattle.steps.specs.Inner.{is_call}
use Rattle.steps.specs.Elementary.{Onward, on, stuck, elementary}
use Rattle.steps.proofs.Lists.{at_member}
use Rattle.steps.proofs.WordLaws.{elementary_does}
use Rattle.steps.proofs.Deductions.{Does}
use Rattle.steps.proofs.Execution.{Ends}
use Rattle.steps.proofs.Tables.{Walk, stands, walks, takes, Reached, walk_reached}
use Rattle.records.specs.Records.{Bodies, bodies_of, goal_rule}
use Rattle.records.specs.Storage.{CallAt}
use Rattle.records.proofs.Justification.{Has, Justified, Follow, names, steps, Follows, ends, goes, record_ends}
use Rattle.tabling.proofs.Evidence.{Among, Valid}
use Rattle.tabling.proofs.Graph.{Front, calls, Leads}
use Rattle.tabling.proofs.Graph as graph
use Rattle.tabling.proofs.Moves.{Of, final, front, move_step, move_call}
use Rattle.tabling.proofs.Closed.{A}
use Rattle.canonical.specs.Order.{Key}
use Rattle.canonical.specs.Rows.{CallRow, AnswerRow, Rows, call_key, call_at, no_call}
use Rattle.canonical.specs.Rounds.{called, leads_to, after_round}
use Rattle.canonical.proofs.Onward.{answer_at, no_answer, row_call, onward_leads}
use Rattle.canonical.proofs.Ways.{Along, ended, step, Comes, now, past}
use Rattle.canonical.proofs.Routes.{along_way}
use Rattle.canonical.proofs.Prefix.{ordered_at, Prefix, prefix_calls, prefix_call, prefix_answer, view, view_shows}
use Rattle.canonical.proofs.AfterRounds.{grown_at, first_calls, after_prefix, answer_came, calls_once, answers_once, answer_rounds}

-- ---- a step over the rows takes an answer of its call, or is done

module _ (t : Rows) where
  -- the answers of the rows as a relation
  abbrev pub Taken : ℕ → State → State → Type 0
  Taken a s u = (e : ℕ) × (e < length t.answers) × (row_call t e ≡ (a, s)) × ((answer_at t.answers e).final ≡ u)

  abbrev Took : Step → State → ℕ → State → Type 0
  Took x s e u = ((a : ℕ) × (x ≡ call a) × (e < length t.answers) × (row_call t e ≡ (a, s)) × ((answer_at t.answers e).final ≡ u)) ⊎ ((e ≡ 0) × Does x s u)

  did : (x : Step) (s : State) (e : ℕ) (u : State) (o : Onward) → elementary x s ≡ o → Leads (Of (view t) (length t.answers)) (final (view t)) (front o) e u → Took x s e u
  did x s e u (on v) q (z, f) = inr (z, elementary_does x s u (q ∙ ap on f))
  did x s e u stuck q l = absurd l

  took : (x : Step) (s : State) (e : ℕ) (u : State) → Leads (Of (view t) (length t.answers)) (final (view t)) (move_step x s) e u → Took x s e u
  unfolding move_step
  took (call a) s e u (o, f) = inl (a, refl, o.below, λ i. (o.action i, o.state i), f)
  took (query p) s e u l = did (query p) s e u (elementary (query p) s) refl l
  took (insert p) s e u l = did (insert p) s e u (elementary (insert p) s) refl l
  took (delete p) s e u l = did (delete p) s e u (elementary (delete p) s) refl l
  took (deny p) s e u l = did (deny p) s e u (elementary (deny p) s) refl l

  onward_took : {e : ℕ} {u : State} (x : Step) (s : State) → Memᴰ {A = ℕ × State} (e, u) (leads_to t x s) → Took x s e u
  onward_took {e} {u} x s m = took x s e u (onward_leads t (view_shows t) x s m)

  took_walk : {x : Step} {s u f : State} {e : ℕ} {rest left : Body} → Took x s e u → Walk Does Taken u rest f left → Walk Does Taken s (x ∷ rest) f left
  took_walk {s = s} {f = f} {e = e} {rest = rest} {left = left} (inl (a, z, l, c, g)) w = let v : Walk Does Taken s (call a ∷ rest) f left = takes (e, l, c, g) w in rw z v
  took_walk (inr (z, d)) w = walks d w

  called_stands : {c : ℕ × State} (x : Step) (rest : Body) (s : State) → Memᴰ c (called x s) → Walk Does Taken s (x ∷ rest) c.1 (call c.0 ∷ rest)
  unfolding called
  called_stands {c} (call a) rest s m = subst (λ (d : ℕ × State). Walk Does Taken s (call a ∷ rest) d.1 (call d.0 ∷ rest)) (sym (Memᴰ.eq_of_singleton m)) stands
  called_stands (query p) rest s m = absurd (Memᴰ.not-nil m)
  called_stands (insert p) rest s m = absurd (Memᴰ.not-nil m)
  called_stands (delete p) rest s m = absurd (Memᴰ.not-nil m)
  called_stands (deny p) rest s m = absurd (Memᴰ.not-nil m)

  comes_walk : {body : Body} {s : State} {c : ℕ × State} → Comes t body s c → (rest : Body) × Walk Does Taken s body c.1 (call c.0 ∷ rest)
  comes_walk (now {x} {rest} {s} m) = (rest, called_stands x rest s m)
  comes_walk (past {x} {rest} {s} m w) = let (left, k) = comes_walk w in (left, took_walk (onward_took x s m) k)

-- ---- a way over earlier rows is evidence in later ones
module _ {t u : Rows} (p : Prefix t u) (inside : (e : ℕ) → e < length t.answers → (answer_at t.answers e).call < length t.calls) (n : ℕ) (behind : length t.answers ≤ n)
    (older : (e : ℕ) → e < length t.answers → (answer_at u.answers e).round < (answer_at u.answers n).round) where
  took_follow : {x : Step} {s v : State} {e : ℕ} → Took t x s e v → Follow (view u) n x s e v
  took_follow {x} {s} {v} {e} (inl (a, z, l, c, f)) =
      let an : answer_at u.answers e ≡ answer_at t.answers e = prefix_answer p e l in
      let ca : row_call u e ≡ (a, s) = ap (λ (r : AnswerRow). call_key (call_at u.calls r.call)) an ∙ ap call_key (prefix_call p (answer_at t.answers e).call (inside e l)) ∙ c in
      let w : Follow (view u) n (call a) s e v = subst (Follow (view u) n (call a) s e) (ap (λ (r : AnswerRow). r.final) an ∙ f) (names (omega arith) (older e l) (ap (λ (k : Key). k.0) ca) (ap (λ (k : Key). k.1) ca)) in
      rw z w
  took_follow (inr (z, d)) = rw z (steps d)

  along_follows : {body : Body} {s f : State} {es : List ℕ} (q : ℕ) → ((j : ℕ) → get_or (answer_at u.answers n).evidence (q + j) 0 ≡ get_or es j 0) → f ≡ (answer_at u.answers n).final → Along t body s es f → Follows (view u) n body q s
  along_follows q same e ended = ends e (λ i (l : q ≤ i) h. (let z : q + (i - q) ≡ i = omega arith in subst (λ (j : ℕ). get_or (answer_at u.answers n).evidence j 0 ≡ 0) z (same (i - q))))
  along_follows q same e (step {x = x} {s = s} {u = v} {e = y} {es = es} m w) =
      let z : q + 0 ≡ q = omega arith in
      let here : get_or (answer_at u.answers n).evidence q 0 ≡ y = subst (λ (j : ℕ). get_or (answer_at u.answers n).evidence j 0 ≡ y) z (same 0) in
      goes (subst (λ (k : ℕ). Follow (view u) n x s k v) (sym here) (took_follow (onward_took t x s m)))
      (along_follows (suc q) (λ j. (let z : q + suc j ≡ suc q + j = omega arith in subst (λ (i : ℕ). get_or (answer_at u.answers n).evidence i 0 ≡ get_or es j 0) z (same (suc j)))) e w)

module _ (rules goal : List ℕ) (few : length rules / rule_width ≤ goal_rule) (start : State) where
  abbrev R : ℕ → Rows
  R n = after_round rules goal start n

  abbrev bodies : Bodies
  bodies = bodies_of rules goal

  -- its call record stands
  pub after_inside : (n e : ℕ) → e < length (R n).answers → (answer_at (R n).answers e).call < length (R n).calls
  after_inside n e l = let c = answer_came rules goal few start n e l in omega (arith, c.found.call_in, prefix_calls (after_prefix rules goal few start c.k n (omega (arith, c.earlier))))

  -- Every answer record is justified,
  pub after_justified : (n x : ℕ) → x < length (R n).answers → Justified bodies (view (R n)) x
  after_justified n x l =
      let c = answer_came rules goal few start n x l in
      let p = after_prefix rules goal few start c.k n (omega (arith, c.earlier)) in
      let a = answer_at (R n).answers x in
      let e : call_at (R n).calls a.call ≡ call_at (R c.k).calls a.call = prefix_call p a.call c.found.call_in in
      record {
        exists = omega (arith, c.found.call_in, prefix_calls p);
        fits = subst (λ (r : CallRow). bodies.fits a.rule r.action ≡ true) (sym e) c.found.fits;
        followed = subst (λ (r : CallRow). Follows (view (R n)) x (body_of (bodies.words a.rule r.action)) 0 r.state) (sym e)
            (along_follows p (after_inside c.k) x c.behind older 0 (λ j. ap (λ (i : ℕ). get_or a.evidence i 0) (omega arith)) refl c.found.along);
      }
    where
      older : (e : ℕ) → e < length (R (answer_came rules goal few start n x l).k).answers → (answer_at (R n).answers e).round < (answer_at (R n).answers x).round
      older e h =
          let c = answer_came rules goal few start n x l in
          let q = prefix_answer (after_prefix rules goal few start c.k n (omega (arith, c.earlier))) e h in
          let r = answer_rounds rules goal few start c.k (answer_at (R c.k).answers e) (at_member (R c.k).answers e no_answer h) in
          omega (arith, c.round_is, ap (λ (r : AnswerRow). r.round) q)

  abbrev body : ℕ → ℕ → List ℕ
  body n x = bodies.words (answer_at (R n).answers x).rule (call_at (R n).calls (answer_at (R n).answers x).call).action

  -- by answers of smaller number and of smaller round.
  pub after_smaller : (n x q : ℕ) → x < length (R n).answers → q < length (body n x) → is_call (get_or (body n x) q 0) ≡ true
      → (get_or (answer_at (R n).answers x).evidence q 0 < x) × ((answer_at (R n).answers (get_or (answer_at (R n).answers x).evidence q 0)).round < (answer_at (R n).answers x).round)
  after_smaller n x q l h w =
      let c = answer_came rules goal few start n x l in
      let a = answer_at (R n).answers x in
      let t = R c.k in
      let W = along_way t (view_shows t) (body n x) c.found.along in
      let m : Leads (Of (view t) (length t.answers)) (final (view t)) (calls (get_or (body n x) q 0 % 256, W.st q)) (get_or a.evidence q 0) (W.st (suc q)) =
      subst (λ (f : Front State (ℕ × State)). Leads (Of (view t) (length t.answers)) (final (view t)) f (get_or a.evidence q 0) (W.st (suc q))) (move_call (get_or (body n x) q 0) (W.st q) w) (W.edges q h).1 in
      let b : get_or a.evidence q 0 < length t.answers = m.0.below in
      let e = prefix_answer (after_prefix rules goal few start c.k n (omega (arith, c.earlier))) (get_or a.evidence q 0) b in
      let r = answer_rounds rules goal few start c.k (answer_at t.answers (get_or a.evidence q 0)) (at_member t.answers (get_or a.evidence q 0) no_answer b) in
      (omega (arith, c.behind), omega (arith, c.round_is, ap (λ (r : AnswerRow). r.round) e))

  module _ (Root : ℕ → State → Type 0) where
    taken_ends : (n a : ℕ) (E F : State) → Taken (R n) a E F → Ends Does (Has bodies) a E F
    taken_ends n a E F (x, l, c, f) =
        subst (λ (G : State). Ends Does (Has bodies) a E G) f
        (subst (λ (k : Key). Ends Does (Has bodies) k.0 k.1 (answer_at (R n).answers x).final) c (record_ends {bodies = bodies} {t = view (R n)} (after_justified n) Root x l))

    -- Every call is reached.
    pub after_reached : Root Goal start → (n : ℕ) (c : CallRow) → Memᴰ c (R n).calls → Reached Does (Has bodies) Root c.action c.state
    after_reached root zero c m = subst (λ (c : CallRow). Reached Does (Has bodies) Root c.action c.state) (sym (Memᴰ.eq_of_singleton (subst (Memᴰ c) (first_calls rules goal few start) m))) (inl root)
    after_reached root (suc n) c m = by (λ d l. after_reached root n d l) (Memᴰ.append_cases (R n).calls (subst (Memᴰ c) (grown_at rules goal few start n).calls_are m))
      where
        by : ((d : CallRow) → Memᴰ d (R n).calls → Reached Does (Has bodies) Root d.action d.state) → Memᴰ c (R n).calls ⊎ Memᴰ c (grown_at rules goal few start n).new_calls → Reached Does (Has bodies) Root c.action c.state
        by old (inl l) = old c l
        by old (inr l) =
            let f = ((grown_at rules goal few start n).calls_found c l).0 in
            let d = call_at (R n).calls f.row in
            let (rest, w) = comes_walk (R n) f.comes in
            walk_reached Does (Has bodies) Root (taken_ends n) (old d (at_member (R n).calls f.row no_call f.row_in)) (f.rule, f.fits, refl) w

  -- What holds of the tables throughout an evaluation holds of the rows.
  pub after_valid : (n : ℕ) → Valid bodies (Among ((Goal, start) ∷ [])) (view (R n))
  after_valid n = record {
    roots = λ a D m. (0, some, at a D (Memᴰ.eq_of_singleton m));
    calls_once = λ i j a D h l c d. ordered_at no_call (calls_once rules goal few start n) i j h l (λ k. ((c.has_action ∙ sym d.has_action) k, (c.has_state ∙ sym d.has_state) k));
    answers_once = λ x y row f h l c d. ordered_at no_answer (answers_once rules goal few start n) x y h l (λ k. ((c.has_call ∙ sym d.has_call) k, (c.has_final ∙ sym d.has_final) k));
    reached = λ i l. after_reached (Among ((Goal, start) ∷ [])) (Memᴰ.head refl) n (call_at (R n).calls i) (at_member (R n).calls i no_call l);
    justified = after_justified n;
  }
    where
      p : Prefix (R 0) (R n)
      p = after_prefix rules goal few start 0 n (omega arith)

      some : 0 < length (R n).calls
      some = omega (arith, prefix_calls p, ap length (first_calls rules goal few start))

      first : call_at (R n).calls 0 ≡ record { action = Goal; state = start; round = 0 }
      first = prefix_call p 0 (omega (arith, ap length (first_calls rules goal few start))) ∙ ap (λ (l : List CallRow). call_at l 0) (first_calls rules goal few start)

      at : (a : ℕ) (D : State) → ◌≡◌ {A = ℕ × State} (a, D) (Goal, start) → CallAt (view (R n)).calls 0 a D
      at a D e = record { has_action = ap (λ (c : CallRow). c.action) first ∙ sym (ap (λ (k : ℕ × State). k.0) e); has_state = ap (λ (c : CallRow). c.state) first ∙ sym (ap (λ (k : ℕ × State). k.1) e) }
