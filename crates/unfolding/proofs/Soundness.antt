-- The path is an execution of the logic: its states are those of a complete deduction from the call's state to the final state. Assumes nothing.
use Prim.Native.Nat.{ℕ, zero, suc, ◌+◌, ◌/◌, ◌<◌}
use native.Mathlib.Omega.{arith}
use mathlib.Core.Path.{◌≡◌, refl, sym, ap, subst, ◌∙◌}
use mathlib.Core.Bool.{Bool, true, false, cond, ◌&&◌}
use mathlib.Core.List.{List, [], ◌∷◌, ◌++◌, append-nil, Memᴰ}
use mathlib.Core.Logic.{◌≢◌}
use lib.ListN.{length}
use lib.Dec.{eqb}
use borrow.Author.Tests.{eqb-true, eqb-false, ne_eqb}
use Rattle.steps.specs.State.{State}
use Rattle.steps.specs.Step.{Step, query, insert, delete, call, deny, Body, Rule, Book}
use Rattle.steps.specs.Deduction.{◌⊢◌, queries, inserts, deletes, calls as replaces, denies, Deduction, done, move, Final}
use Rattle.steps.specs.Run.{Goal, body_of_call}
use Rattle.steps.specs.Words.{body_of, words_of, book_of, run_of}
use Rattle.steps.specs.Inner.{rule_of}
use Rattle.steps.specs.Elementary.{Onward, on, stuck, elementary}
use Rattle.steps.proofs.EachBelow.{both, true_not_false}
use Rattle.steps.proofs.WordLaws.{elementary_does, not_on, on_same, rule_member}
use Rattle.steps.proofs.Deductions.{Does, asks, adds, drops, lacks}
use Rattle.steps.proofs.Exactness.{Apart, Separate}
use Rattle.steps.proofs.AcceptanceLaws.{AcceptedWords, separate}
use Rattle.records.specs.Records.{Calls, Answers, Bodies, bodies_of, earlier, follow, follows, justified, goal_rule}
use Rattle.records.proofs.BodyLaws.{fits_rule, fits_goal}
use Rattle.checks.proofs.FollowLaws.{earlier_below}
use Rattle.unfolding.specs.Path as path
use Rattle.unfolding.specs.Path.{shown, walked, path_of}
use Rattle.unfolding.specs.States.{move_states, states, updates, Chain}
use Rattle.unfolding.proofs.Below.{added_walk}
use Rattle.unfolding.proofs.Checking.{justified_parts}
use Rattle.unfolding.proofs.StatesLaws.{states_chain, states_length, joined, before}

-- an elementary step in front of a deduction
does_step : {book : Book} {x : Step} {s t f : State} {rest : Body} → Does x s t → (d : Final book t rest f) → (d' : Final book s (x ∷ rest) f) × (shown x t ++ states d ≡ states d')
unfolding states move_states shown
does_step (asks h) d = (move (queries h) d, refl)
does_step adds d = (move inserts d, refl)
does_step drops d = (move deletes d, refl)
does_step (lacks h) d = (move (denies h) d, refl)

done_step : {book : Book} (x : Step) {s t f : State} {rest : Body} (b : Bool) → cond b (elementary x s) stuck ≡ on t → (d : Final book t rest f)
    → (d' : Final book s (x ∷ rest) f) × (shown x t ++ states d ≡ states d')
done_step x {s} {t} true k d = does_step (elementary_does x s t k) d
done_step x false k d = absurd (not_on k)

module _ (rules goal : List ℕ) (calls : Calls) (answers : Answers) (apart : Separate (run_of rules goal 0)) where
  abbrev book : Book
  book = book_of rules

  abbrev bodies : Bodies
  bodies = bodies_of rules goal

  abbrev body : ℕ → Body
  body n = body_of (bodies.words (answers.rule n) (calls.action (answers.call n)))

  -- What record n adds are the states of a complete deduction of its body.
  abbrev Deduced : ℕ → Type 0
  Deduced n = (d : Final book (calls.state (answers.call n)) (body n) (answers.final n)) × (path.states_added calls answers bodies n ≡ states d)

  -- a rule number that goes with an action other than the goal's
  module _ (i a : ℕ) (fits : bodies.fits i a ≡ true) (ne : a ≢ Goal) where
    ruled : i ≢ goal_rule
    ruled e = ne (fits_goal rules goal i a fits e)

    the_body : bodies.words i a ≡ words_of rules i
    the_body = rw (ne_eqb i goal_rule ruled) refl

    -- a call of the action, by a deduction of the rule's body
    by_rule : {D D' : State} (rest : Body) {E : State} (d : Final book D (body_of (bodies.words i a)) E) (d₂ : Final book E rest D')
        → (d' : Final book D (call a ∷ rest) D') × (states d' ≡ states d ++ states d₂)
    unfolding states move_states
    by_rule {D} {D'} rest {E} d d₂ =
        let (l, h) = fits_rule rules goal i a fits ruled in
        let (d₁, e₁) = subst (λ (ws : List ℕ). (d₁ : Deduction book (D ⊢ body_of ws ++ rest) (E ⊢ rest)) × (states d₁ ≡ states d)) the_body (before rest d) in
        let (d₃, e₃) = joined d₁ d₂ in
        (move (replaces (rule_of rules i) (rule_member rules i l) h) d₃, e₃ ∙ ap (λ (l : List State). l ++ states d₂) e₁)

  module _ (n : ℕ) (fitted : (e : ℕ) → e < n → bodies.fits (answers.rule e) (calls.action (answers.call e)) ≡ true) (deduced : (e : ℕ) → e < n → Deduced e) where
    -- one step more in front
    step : (x : Step) (rest : Body) (s t : State) (e : ℕ) → ((b : ℕ) → x ≡ call b → b ≢ Goal) → follow calls answers n x s e ≡ on t
        → (d : Final book t rest (answers.final n)) → (d' : Final book s (x ∷ rest) (answers.final n)) × (path.adds (path.states_added calls answers bodies) x t e ++ states d ≡ states d')
    unfolding follow path.adds
    step (query p) rest s t e ne h d = done_step (query p) (eqb e 0) h d
    step (insert p) rest s t e ne h d = done_step (insert p) (eqb e 0) h d
    step (delete p) rest s t e ne h d = done_step (delete p) (eqb e 0) h d
    step (deny p) rest s t e ne h d = done_step (deny p) (eqb e 0) h d
    step (call a) rest s t e ne h d = by (earlier calls answers n e && (eqb (calls.action (answers.call e)) a && eqb (calls.state (answers.call e)) s)) refl h
      where
        by : (b : Bool) → (earlier calls answers n e && (eqb (calls.action (answers.call e)) a && eqb (calls.state (answers.call e)) s)) ≡ b → cond b (on (answers.final e)) stuck ≡ on t
            → (d' : Final book s (call a ∷ rest) (answers.final n)) × (path.states_added calls answers bodies e ++ states d ≡ states d')
        by false z k = absurd (not_on k)
        by true z k =
            let (l, r) = both (earlier calls answers n e) _ z in
            let (f, g) = both (eqb (calls.action (answers.call e)) a) _ r in
            let lt = earlier_below calls answers n e l in
            let fit : bodies.fits (answers.rule e) a ≡ true = rw (eqb-true _ a f) at (fitted e lt) in
            let (dₑ, eₑ) = deduced e lt in
            let (d₁, e₁) = subst (λ (D : State). (d₁ : Final book D (body e) (answers.final e)) × (states d₁ ≡ states dₑ)) (eqb-true _ s g) (dₑ, refl) in
            let (d₂, e₂) = subst (λ (E : State). (d₂ : Final book s (body e) E) × (states d₂ ≡ states dₑ)) (on_same k) (d₁, e₁) in
            let (d', e') = by_rule (answers.rule e) a fit (ne a refl) rest d₂ d in
            (d', sym (e' ∙ ap (λ (l : List State). l ++ states d) (e₂ ∙ sym eₑ)))

    -- the steps from place q on
    walk : (xs : Body) (q : ℕ) (s : State) → Apart xs → follows calls answers n xs q s ≡ true
        → (d : Final book s xs (answers.final n)) × (walked calls answers n (path.states_added calls answers bodies) xs q s ≡ states d)
    unfolding follows walked states
    walk [] q s free h = subst (λ (f : State). (d : Final book s [] f) × ([] ≡ states d)) (eqb-true s _ (both (eqb s (answers.final n)) _ h).0) (done, refl)
    walk (x ∷ rest) q s free h = by (follow calls answers n x s (answers.evidence n q)) refl h (walk rest (suc q))
      where
        by : (o : Onward) → follow calls answers n x s (answers.evidence n q) ≡ o → elim o [ on t ↦ follows calls answers n rest (suc q) t | stuck ↦ false ] ≡ true
            → ((t : State) → Apart rest → follows calls answers n rest (suc q) t ≡ true → (d : Final book t rest (answers.final n)) × (walked calls answers n (path.states_added calls answers bodies) rest (suc q) t ≡ states d))
            → (d : Final book s (x ∷ rest) (answers.final n))
            × ◌≡◌ {A = List State} (elim o [ on t ↦ path.adds (path.states_added calls answers bodies) x t (answers.evidence n q) ++ walked calls answers n (path.states_added calls answers bodies) rest (suc q) t | stuck ↦ [] ]) (states d)
        by stuck e k later = absurd (true_not_false (sym k))
        by (on t) e k later =
            let (d, f) = later t (λ b m. free b (Memᴰ.tail m)) k in
            let (d', f') = step x rest s t (answers.evidence n q) (λ b z. free b (Memᴰ.head (sym z))) e d in
            (d', rw f f')

  -- no body calls the goal
  body_apart : (i a : ℕ) → bodies.fits i a ≡ true → Apart (body_of (bodies.words i a))
  body_apart i a fits = by (eqb i goal_rule) refl
    where
      by : (b : Bool) → eqb i goal_rule ≡ b → Apart (body_of (cond b goal (words_of rules i)))
      by true z = apart.goal
      by false z = apart.bodies (rule_of rules i) (rule_member rules i (fits_rule rules goal i a fits (eqb-false i goal_rule z)).0)

  -- action 64 has only the goal
  goal_body : (i : ℕ) → bodies.fits i Goal ≡ true → bodies.words i Goal ≡ goal
  goal_body i fits = by (eqb i goal_rule) refl
    where
      by : (b : Bool) → eqb i goal_rule ≡ b → cond b goal (words_of rules i) ≡ goal
      by true z = refl
      by false z =
          let (l, h) = fits_rule rules goal i Goal fits (eqb-false i goal_rule z) in
          absurd (apart.heads (rule_of rules i) (rule_member rules i l) h)

  module _ (m : ℕ) (all : (n : ℕ) → n < m → justified calls answers n bodies ≡ true) where
    fitted : (n : ℕ) → n < m → bodies.fits (answers.rule n) (calls.action (answers.call n)) ≡ true
    fitted n l = (justified_parts calls answers n bodies (all n l)).1

    deduced_below : (k n : ℕ) → n < k → n < m → Deduced n
    deduced_below zero n l h = absurd (omega arith)
    deduced_below (suc k) n l h =
        let (d, e) = walk n (λ x g. fitted x (omega arith)) (λ x g. deduced_below k x (omega arith) (omega arith)) (body n) 0 (calls.state (answers.call n)) (body_apart (answers.rule n) (calls.action (answers.call n)) (fitted n h)) (justified_parts calls answers n bodies (all n h)).2 in
        (d, added_walk calls answers bodies n ∙ e)

    -- The path of a justified record: the states of a complete deduction of its call, from the call's state to its final state.
    pub path_deduction : (x : ℕ) → x < m
        → (d : Final book (calls.state (answers.call x)) (body_of_call (run_of rules goal 0) (calls.action (answers.call x))) (answers.final x))
        × (path_of calls answers bodies x ≡ calls.state (answers.call x) ∷ states d)
    unfolding path_of states
    path_deduction x l = by (eqb (calls.action (answers.call x)) Goal) refl (deduced_below (suc x) x (omega arith) l)
      where
        by : (b : Bool) → eqb (calls.action (answers.call x)) Goal ≡ b → Deduced x
            → (d : Final book (calls.state (answers.call x)) (cond b (body_of goal) (call (calls.action (answers.call x)) ∷ [])) (answers.final x))
            × (calls.state (answers.call x) ∷ path.states_added calls answers bodies x ≡ calls.state (answers.call x) ∷ states d)
        by true z (d, e) =
            let fit : bodies.fits (answers.rule x) Goal ≡ true = rw (eqb-true (calls.action (answers.call x)) Goal z) at (fitted x l) in
            let (d', e') = subst (λ (ws : List ℕ). (d' : Final book (calls.state (answers.call x)) (body_of ws) (answers.final x)) × (states d' ≡ states d)) (goal_body (answers.rule x) fit) (d, refl) in
            (d', ap (λ (l : List State). calls.state (answers.call x) ∷ l) (e ∙ sym e'))
        by false z (d, e) =
            let (d', e') = by_rule (answers.rule x) (calls.action (answers.call x)) (fitted x l) (eqb-false _ Goal z) [] d done in
            (d', ap (λ (l : List State). calls.state (answers.call x) ∷ l) (e ∙ sym (e' ∙ append-nil (states d))))

-- What the path of record x is, in the logic's terms.
pub record Executed (rules goal : List ℕ) (calls : Calls) (answers : Answers) (x : ℕ) : Type 0 where
  -- a complete deduction of the call from its state to the record's final state,
  pub deduction : Final (book_of rules) (calls.state (answers.call x)) (body_of_call (run_of rules goal 0) (calls.action (answers.call x))) (answers.final x)
  -- whose states the path lists,
  pub listed : path_of calls answers (bodies_of rules goal) x ≡ calls.state (answers.call x) ∷ states deduction
  -- one more than its updates,
  pub long : length (path_of calls answers (bodies_of rules goal) x) ≡ 1 + updates deduction
  -- each two neighbours one update apart
  pub neighbours : Chain (calls.state (answers.call x)) (states deduction) (answers.final x)

pub executed : {fluents actions : ℕ} {rules goal : List ℕ} → AcceptedWords fluents actions rules goal → (calls : Calls) (answers : Answers) (m : ℕ)
    → ((n : ℕ) → n < m → justified calls answers n (bodies_of rules goal) ≡ true) → (x : ℕ) → x < m → Executed rules goal calls answers x
executed {rules = rules} {goal} acc calls answers m all x l =
    let (d, e) = path_deduction rules goal calls answers (separate acc 0) m all x l in
    record { deduction = d; listed = e; long = rw e (omega (arith, states_length d)); neighbours = states_chain d }
