-- Tables that are closed and sound for the kept goals as roots hold exactly the calls and answers of these goals. Assumes nothing.
use Prim.Native.Nat.{ℕ, ◌*◌, ◌/◌, ◌<◌, ◌≤◌}
use native.Mathlib.Omega.{arith}
use mathlib.Core.Path.{◌≡◌, refl, sym, subst, ap, ◌∙◌}
use mathlib.Core.Bool.{Bool, true, false, cond, ◌&&◌, ◌||◌}
use mathlib.Core.List.{List, [], ◌∷◌, Memᴰ}
use mathlib.Core.Logic.{◌⊎◌, inl, inr, ◌↔◌, ⊎_map}
use lib.ListN.{get_or, length, length-map}
use lib.Dec.{eqb}
use borrow.Author.Tests.{lt-ltb, eqb-true, eqb-false, eq-eqb, ne_eqb}
use Rattle.steps.specs.State.{State}
use Rattle.steps.specs.Step.{Step, query, insert, delete, call, deny, Body, Rule, Book}
use Rattle.steps.specs.Deduction.{Final, ComesToCall}
use Rattle.steps.specs.Run.{Goal}
use Rattle.steps.specs.Counting.{Exactly, Outnumbers}
use Rattle.steps.specs.Words.{step_of, body_of, head_of, words_of, book_of}
use Rattle.steps.specs.Widths.{rule_width}
use Rattle.steps.specs.Inner.{rule_of}
use Rattle.steps.proofs.EachBelow.{both}
use Rattle.steps.proofs.WordLaws.{Low, book_member, rule_member, words_short}
use Rattle.steps.proofs.AcceptanceLaws.{AcceptedWords, Indexed, IndexedBody, goal_indexed, rule_indexed}
use Rattle.steps.proofs.Counting.{outnumbers_map}
use Rattle.steps.proofs.Rows.{table_exactly}
use Rattle.steps.proofs.Deductions.{Does, RuleOf, rule, to_runs, of_runs, to_comes, of_comes}
use Rattle.steps.proofs.Execution.{Runs, ended, does, uses, Comes, here, past, inside, after, Ends, runs_map, comes_map}
use Rattle.steps.proofs.Tables.{Reached, Exact, reached_map, ends_map}
use Rattle.records.specs.Records.{Bodies, bodies_of, goal_rule}
use Rattle.records.specs.Finished.{call_rows, answer_rows}
use Rattle.records.proofs.Growth.{Tables, tables}
use Rattle.records.proofs.Justification.{Has, Proper, justified_in}
use Rattle.records.proofs.Numbers.{fits_cases, words_goal, words_rule}
use Rattle.tabling.proofs.Adding.{Outgrown, calls_apart, answers_apart}
use Rattle.tabling.proofs.Closed.{Whole, C, A, exact_of}
use Rattle.sharing.specs.Parties.{Party, first, second, goal_number, Ledger, account_of}
use Rattle.sharing.specs.Charged.{CallAs, KeptCall, KeptAnswer, plain_call_width, plain_answer_width, kept_calls, kept_answers, goal_kept, goal_under, bodies_kept, Balanced}

pub number_high : (p : Party) → 64 ≤ goal_number p
unfolding goal_number
number_high first = omega arith
number_high second = omega arith

number_apart : (p p' : Party) → goal_number p ≡ goal_number p' → p ≡ p'
unfolding goal_number
number_apart first first e = refl
number_apart first second e = absurd (omega (arith, e))
number_apart second first e = absurd (omega (arith, e))
number_apart second second e = refl

either : (x y : Bool) → (x || y) ≡ true → (x ≡ true) ⊎ (y ≡ true)
either true y h = inl refl
either false y h = inr h

-- every call of the body is of an action below 64
abbrev LowCalls : Body → Type 0
LowCalls body = (b : ℕ) → Memᴰ (call b) body → b < 64

low_tail : {s : Step} {rest : Body} → LowCalls (s ∷ rest) → LowCalls rest
low_tail low b m = low b (Memᴰ.tail m)

low_step : (fluents actions : ℕ) (x : Step) → fluents ≤ 64 → Indexed fluents actions x → Low x
low_step fluents actions (query p) l h = omega arith
low_step fluents actions (insert p) l h = omega arith
low_step fluents actions (delete p) l h = omega arith
low_step fluents actions (deny p) l h = omega arith
low_step fluents actions (call a) l h = tt

-- ---- goals by their numbers
module _ (l : Ledger) where
  pub kept_goal : (p : Party) (a : ℕ) → (account_of l p).holds ≡ true → a ≡ goal_number p → goal_kept l a ≡ true
  unfolding goal_kept goal_number account_of
  kept_goal first a h e = rw (eq-eqb a Goal e, h) refl
  kept_goal second a h e = rw (ne_eqb a Goal (λ z. omega (arith, e, z)), eq-eqb a 65 e, h) refl

  pub goal_keeps : (a : ℕ) → goal_kept l a ≡ true → (p : Party) × ((account_of l p).holds ≡ true) × (a ≡ goal_number p)
  unfolding goal_kept goal_number account_of
  goal_keeps a h = by (either (eqb a Goal && l.first.holds) (eqb a 65 && l.second.holds) h)
    where
      by : ((eqb a Goal && l.first.holds) ≡ true) ⊎ ((eqb a 65 && l.second.holds) ≡ true) → (p : Party) × ((account_of l p).holds ≡ true) × (a ≡ goal_number p)
      by (inl k) = let (e, f) = both (eqb a Goal) l.first.holds k in (first, f, eqb-true a Goal e)
      by (inr k) = let (e, f) = both (eqb a 65) l.second.holds k in (second, f, eqb-true a 65 e)

  pub under_is : (p : Party) (a : ℕ) → a ≡ goal_number p → goal_under l a ≡ (account_of l p).goal
  unfolding goal_under goal_number account_of
  under_is first a e = rw (ne_eqb a 65 (λ z. omega (arith, e, z))) refl
  under_is second a e = rw (eq-eqb a 65 e) refl

module _ {fluents actions : ℕ} (rules : List ℕ) (l : Ledger) (acc : (p : Party) → AcceptedWords fluents actions rules (account_of l p).goal) where
  abbrev book : Book
  book = book_of rules

  abbrev bodies : Bodies
  bodies = bodies_kept rules l

  abbrev goal_of : Party → Body
  goal_of p = body_of (account_of l p).goal

  -- The roots: the goals of the parties that hold rows, at their starts.
  abbrev pub KeptRoot : ℕ → State → Type 0
  KeptRoot a D = (p : Party) × ((account_of l p).holds ≡ true) × (a ≡ goal_number p) × (D ≡ (account_of l p).start)

  goal_low : (p : Party) → LowCalls (goal_of p)
  goal_low p b m = omega (arith, goal_indexed (acc p) (call b) m, (acc p).few_actions)

  rule_low : (r : Rule) → Memᴰ r book → (r.head < 64) × LowCalls r.body
  rule_low r m = let (h, i) = rule_indexed (acc first) r m in (omega (arith, (acc first).few_actions), λ b k. omega (arith, i (call b) k, (acc first).few_actions))

  -- ---- bodies

  -- The bodies of an action: the goal of a party that holds rows, for its number; else those of its rules.
  data KeptBody (a : ℕ) : Body → Type 0 where
    of_goal : (p : Party) → (account_of l p).holds ≡ true → a ≡ goal_number p → KeptBody a (goal_of p)
    of_rule : (r : Rule) → Memᴰ r book → r.head ≡ a → KeptBody a r.body

  has_body : (a : ℕ) (body : Body) → Has bodies a body → KeptBody a body
  has_body a body (i, f, e) = by (eqb i goal_rule) refl f
    where
      by : (b : Bool) → eqb i goal_rule ≡ b → cond b (goal_kept l a) ((bodies_of rules []).fits i a) ≡ true → KeptBody a body
      by true z h =
          let (p, k, g) = goal_keeps l a h in
          subst (KeptBody a) (sym (e ∙ ap body_of (words_goal rules (goal_under l a) i a (eqb-true i goal_rule z) ∙ under_is l p a g))) (of_goal p k g)
      by false z h = fits_cases rules [] i a h (KeptBody a body) (λ k g. absurd (eqb-false i goal_rule z k))
          (λ n k g. subst (KeptBody a) (sym (e ∙ ap body_of (words_rule rules (goal_under l a) i a n))) (of_rule (rule_of rules i) (rule_member rules i k) g))

  body_has : (a : ℕ) (body : Body) → KeptBody a body → Has bodies a body
  body_has a body (of_goal p h e) = (goal_rule, kept_goal l p a h e, ap body_of (sym (under_is l p a e)))
  body_has a body (of_rule r m h) =
      let (i, k, e) = book_member rules 0 (length rules / rule_width) r m in
      let g : i < length rules / rule_width = omega arith in
      let n : i ≡ goal_rule → ⊥ = λ z. omega (arith, (acc first).few_rules) in (
        i,
        rw (ne_eqb i goal_rule n, lt-ltb i (length rules / rule_width) g, eq-eqb (head_of rules i) a (sym (ap (λ (r : Rule). r.head) e) ∙ h)) refl,
        ap (λ (r : Rule). r.body) e ∙ ap body_of (sym (words_rule rules (goal_under l a) i a n)),
      )

  rule_body : (a : ℕ) (body : Body) → RuleOf book a body → KeptBody a body
  rule_body a body (rule r m e) = of_rule r m e

  -- a body of an action below 64 is one of its rules'
  low_body : {a : ℕ} {body : Body} → a < 64 → KeptBody a body → RuleOf book a body × LowCalls body
  low_body k (of_goal p h e) = absurd (omega (arith, number_high p, e))
  low_body k (of_rule r m e) = (rule r m e, (rule_low r m).1)

  -- a goal's number has only the goal
  goal_only : {a : ℕ} {body : Body} (p : Party) → a ≡ goal_number p → KeptBody a body → body ≡ goal_of p
  goal_only p e (of_goal p' h f) = ap goal_of (number_apart p' p (sym f ∙ e))
  goal_only p e (of_rule r m h) = absurd (omega (arith, (rule_low r m).0, number_high p, h, e))

  -- Accepted bodies have at most 16 steps, of fluents that a state has.
  kept_short : {a : ℕ} {body : Body} → KeptBody a body → length body ≤ 16
  kept_short (of_goal p h e) = omega (arith, length-map (account_of l p).goal step_of, (acc p).short)
  kept_short (of_rule r m h) =
      let (i, k, e) = book_member rules 0 (length rules / rule_width) r m in
      subst (λ (z : Rule). length z.body ≤ 16) (sym e) (omega (arith, length-map (words_of rules i) step_of, words_short rules i, (acc first).counts i (omega arith)))

  kept_indexed : {a : ℕ} {body : Body} → KeptBody a body → IndexedBody fluents actions body
  kept_indexed (of_goal p h e) = goal_indexed (acc p)
  kept_indexed (of_rule r m h) = (rule_indexed (acc first) r m).1

  pub kept_proper : Proper (bodies_kept rules l)
  kept_proper = record {
    short = λ i a e. omega (arith, length-map (bodies.words i a) step_of, kept_short (has_body a (body_of (bodies.words i a)) (i, e, refl)));
    low = λ i a e x m. low_step fluents actions x (acc first).few_fluents (kept_indexed (has_body a (body_of (bodies.words i a)) (i, e, refl)) x m);
  }

  -- ---- executions

  -- those without a call of a goal use rules alone
  rule_runs : {D D' : State} {body : Body} → LowCalls body → Runs Does KeptBody D body D' → Runs Does (RuleOf book) D body D'
  rule_runs low ended = ended
  rule_runs low (does h p) = does h (rule_runs (low_tail low) p)
  rule_runs low (uses {a = a} h i p) = let (r, below) = low_body (low a (Memᴰ.head refl)) h in uses r (rule_runs below i) (rule_runs (low_tail low) p)

  rule_comes : {b : ℕ} {E D : State} {body : Body} → LowCalls body → Comes Does KeptBody b E D body → Comes Does (RuleOf book) b E D body
  rule_comes low (here e f) = here e f
  rule_comes low (past h p) = past h (rule_comes (low_tail low) p)
  rule_comes low (inside {a = a} h p) = let (r, below) = low_body (low a (Memᴰ.head refl)) h in inside r (rule_comes below p)
  rule_comes low (after {a = a} h i p) = let (r, below) = low_body (low a (Memᴰ.head refl)) h in after r (rule_runs below i) (rule_comes (low_tail low) p)

  -- and come to calls below 64
  comes_low : {b : ℕ} {E D : State} {body : Body} → LowCalls body → Comes Does (RuleOf book) b E D body → b < 64
  comes_low low (here {a = a} e f) = omega (arith, low a (Memᴰ.head refl), e)
  comes_low low (past h p) = comes_low (low_tail low) p
  comes_low low (inside (rule r m e) p) = comes_low (rule_low r m).1 p
  comes_low low (after h i p) = comes_low (low_tail low) p

  -- ---- calls and answers

  reached_kept : {a : ℕ} {D : State} → Reached Does KeptBody KeptRoot a D → KeptCall rules l (a, D)
  reached_kept (inl (p, h, e, d)) = (p, h, inl (e, d))
  reached_kept {a} {D} (inr (c, E, body, (p, h, e, d), b, q)) =
      let q' : Comes Does KeptBody a D (account_of l p).start (goal_of p) = rw (d, goal_only p e b) at q in
      (p, h, inr (of_comes (rule_comes (goal_low p) q')))

  kept_reached : {a : ℕ} {D : State} → KeptCall rules l (a, D) → Reached Does KeptBody KeptRoot a D
  kept_reached (p, h, inl (e, d)) = inl (p, h, e, d)
  kept_reached (p, h, inr (rest, d)) =
      inr (goal_number p, (account_of l p).start, goal_of p, (p, h, refl, refl), of_goal p h refl, comes_map rule_body (to_comes d))

  module _ (p : Party) (a : ℕ) (D D' : State) where
    -- a call that the goal comes to is of an action below 64
    called_low : ComesToCall book (account_of l p).start (goal_of p) a D → a < 64
    called_low (rest, d) = comes_low (goal_low p) (to_comes d)

    final_of : CallAs (goal_number p) (record { book = book; goal = goal_of p; start = (account_of l p).start }) (a, D)
        → Ends Does KeptBody a D D' → Final book D (cond (eqb a (goal_number p)) (goal_of p) (call a ∷ [])) D'
    final_of (inl (e, d)) (body, b, r) = rw (eq-eqb a (goal_number p) e) (of_runs (rule_runs (goal_low p) (rw (goal_only p e b) at r)))
    final_of (inr (rest, d)) (body, b, r) =
        let k = called_low (rest, d) in
        let n : a ≡ goal_number p → ⊥ = λ z. omega (arith, number_high p, z) in
        let (q, low) = low_body k b in
        rw (ne_eqb a (goal_number p) n) (of_runs (uses q (rule_runs low r) ended))

    ends_of : (account_of l p).holds ≡ true → CallAs (goal_number p) (record { book = book; goal = goal_of p; start = (account_of l p).start }) (a, D)
        → Final book D (cond (eqb a (goal_number p)) (goal_of p) (call a ∷ [])) D' → Ends Does KeptBody a D D'
    ends_of h (inl (e, d)) f = (goal_of p, of_goal p h e, runs_map rule_body (to_runs (rw (eq-eqb a (goal_number p) e) at f)))
    ends_of h (inr (rest, d)) f =
        let k = called_low (rest, d) in
        let n : a ≡ goal_number p → ⊥ = λ z. omega (arith, number_high p, z) in
        one (to_runs (rw (ne_eqb a (goal_number p) n) at f))
      where
        one : Runs Does (RuleOf book) D (call a ∷ []) D' → Ends Does KeptBody a D D'
        one (uses {body = body} b i ended) = (body, rule_body a body b, runs_map rule_body i)
        one (does {D₁ = D₁} x12 _) = elim x12 [ ]

  -- ---- any roots that are the kept goals at their starts
  module _ (Root : ℕ → State → Type 0) (root_in : (a : ℕ) (D : State) → Root a D → KeptRoot a D) (in_root : (a : ℕ) (D : State) → KeptRoot a D → Root a D) where
    pub call_of : {a : ℕ} {D : State} → Reached Does (Has bodies) Root a D → KeptCall rules l (a, D)
    call_of r = reached_kept (reached_map has_body root_in r)

    pub of_call : {a : ℕ} {D : State} → KeptCall rules l (a, D) → Reached Does (Has bodies) Root a D
    of_call c = reached_map body_has in_root (kept_reached c)

    answer_of : {a : ℕ} {D D' : State} → Reached Does (Has bodies) Root a D × Ends Does (Has bodies) a D D' → KeptAnswer rules l (a, D, D')
    answer_of {a} {D} {D'} (r, e) = let (p, h, c) = call_of r in (p, h, (c, final_of p a D D' c (ends_map has_body {a = a} e)))

    of_answer : {a : ℕ} {D D' : State} → KeptAnswer rules l (a, D, D') → Reached Does (Has bodies) Root a D × Ends Does (Has bodies) a D D'
    of_answer {a} {D} {D'} (p, h, (c, f)) = (of_call (p, h, c), ends_map body_has {a = a} (ends_of p a D D' h c f))

    -- More than there are places for is more of the kept goals' calls or answers.
    pub outgrown_kept : (n m : ℕ) → Outgrown bodies Root n m → Outnumbers (KeptCall rules l) n ⊎ Outnumbers (KeptAnswer rules l) m
    outgrown_kept n m o = ⊎_map (outnumbers_map n (λ c r. call_of r)) (outnumbers_map m (λ c r. answer_of r)) o

    -- Closed tables hold just the calls and the answers of the kept goals.
    module _ (t : Tables) (R : Whole bodies Root 0 t) where
      held : Exact Does (Has bodies) Root (C t) (A t)
      held = exact_of bodies Root kept_proper t R

      pub whole_calls : Exactly (KeptCall rules l) (call_rows t.calls)
      whole_calls = table_exactly _ (KeptCall rules l) t.calls.count (calls_apart R.valid) (λ i k. call_of ((held.calls _ _).0 (i, k, record { has_action = refl; has_state = refl })))
          (λ (a, D) c. let (i, k, h) = (held.calls a D).1 (of_call c) in (i, k, λ j. (sym h.has_action j, sym h.has_state j)))

      pub whole_answers : Exactly (KeptAnswer rules l) (answer_rows t.calls t.answers)
      whole_answers = table_exactly _ (KeptAnswer rules l) t.answers.count (answers_apart R.valid)
          (λ x k. answer_of ((held.answers _ _ _).0 (x, record { below = k; action = refl; state = refl }, refl)))
          (λ (a, D, D') c. let (x, o, f) = (held.answers a D D').1 (of_answer c) in (x, o.below, λ j. (sym o.action j, sym o.state j, sym f j)))

    -- With 0 past them they are balanced.
    module _ (calls answers : List ℕ) (R : Whole bodies Root 0 (tables (kept_calls l calls) (kept_answers l answers))) where
      pub whole_balanced : ((i : ℕ) → plain_call_width * l.calls ≤ i → get_or calls i 0 ≡ 0) → ((i : ℕ) → plain_answer_width * l.answers ≤ i → get_or answers i 0 ≡ 0)
          → Balanced rules l calls answers
      whole_balanced zeros zeros' = record {
        calls_held = whole_calls (tables (kept_calls l calls) (kept_answers l answers)) R;
        answers_held = whole_answers (tables (kept_calls l calls) (kept_answers l answers)) R;
        justified = λ x k. justified_in kept_proper (R.valid.justified x k);
        calls_past = zeros;
        answers_past = zeros';
      }
