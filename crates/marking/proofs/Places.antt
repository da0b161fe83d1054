-- Places of a record: place i, no later than the first step that cannot run, stands for the state after the steps before i and the steps from i
-- on. Executions over places are executions that spend the record, so the theorem of `Tables` serves with places for states. Assumes nothing.
use Prim.Native.Nat.{ℕ, suc, ◌+◌, ◌-◌, ◌<◌, ◌≤◌}
use native.Mathlib.Omega.{arith}
use native.Mathlib.Decide.{dec_lt}
use mathlib.Core.Path.{◌≡◌, refl, sym, ap, subst, ◌∙◌}
use mathlib.Core.List.{List, [], ◌∷◌, ◌++◌}
use lib.ListN.{get_or, length, take, drop, length-map, drop_of_length-le}
use lib.Seq.{take-suc, drop-cons, take-add}
use Rattle.steps.specs.State.{State}
use Rattle.steps.specs.Step.{Step, query, Body}
use Rattle.steps.specs.Words.{step_of, body_of}
use Rattle.steps.specs.Elementary.{Onward, on, stuck, elementary}
use Rattle.steps.proofs.Deductions.{Does}
use Rattle.steps.proofs.Execution.{Runs, ended, does, uses}
use Rattle.steps.proofs.WordLaws.{Low, on_same, not_on, elementary_does, does_elementary}
use Rattle.masks.specs.Masks.{Carried, carries}
use Rattle.masks.proofs.Walking.{step_at_word}
use Rattle.gains.proofs.Widening.{runs_up}
use Rattle.marking.specs.Marking.{left_by}
use Rattle.marking.specs.Inner.{Ran}
use Rattle.marking.proofs.Spending.{Left, Spends, spends}

-- ---- what steps leave

pub left_split : (xs ys : List Step) (s t : State) → left_by (xs ++ ys) s ≡ on t → (u : State) × (left_by xs s ≡ on u) × (left_by ys u ≡ on t)
unfolding left_by
left_split [] ys s t e = (s, refl, e)
left_split (x ∷ xs) ys s t e = by (elementary x s) e (λ v f. left_split xs ys v t f)
  where
    by : (o : Onward) → elim o [ on v ↦ left_by (xs ++ ys) v | stuck ↦ stuck ] ≡ on t
        → ((v : State) → left_by (xs ++ ys) v ≡ on t → (u : State) × (left_by xs v ≡ on u) × (left_by ys u ≡ on t))
        → (u : State) × (elim o [ on v ↦ left_by xs v | stuck ↦ stuck ] ≡ on u) × (left_by ys u ≡ on t)
    by (on v) f go = go v f
    by stuck f go = absurd (not_on f)

pub left_join : (xs ys : List Step) (s t u : State) → left_by xs s ≡ on u → left_by ys u ≡ on t → left_by (xs ++ ys) s ≡ on t
unfolding left_by
left_join [] ys s t u e f = subst (λ (v : State). left_by ys v ≡ on t) (sym (on_same e)) f
left_join (x ∷ xs) ys s t u e f = by (elementary x s) e (λ v g. left_join xs ys v t u g f)
  where
    by : (o : Onward) → elim o [ on v ↦ left_by xs v | stuck ↦ stuck ] ≡ on u → ((v : State) → left_by xs v ≡ on u → left_by (xs ++ ys) v ≡ on t)
        → elim o [ on v ↦ left_by (xs ++ ys) v | stuck ↦ stuck ] ≡ on t
    by (on v) g go = go v g
    by stuck g go = absurd (not_on g)

pub left_one : (x : Step) (s t : State) → left_by (x ∷ []) s ≡ on t → elementary x s ≡ on t
unfolding left_by
left_one x s t e = by (elementary x s) e
  where
    by : (o : Onward) → elim o [ on v ↦ on v | stuck ↦ stuck ] ≡ on t → o ≡ on t
    by (on v) f = f
    by stuck f = f

pub one_left : (x : Step) (s t : State) → elementary x s ≡ on t → left_by (x ∷ []) s ≡ on t
unfolding left_by
one_left x s t e = rw (e, left_by) refl

not_nil : {x : Step} {rest : List Step} → ◌≡◌ {A = List Step} (x ∷ rest) [] → ⊥
not_nil e = let z : ◌≡◌ {A = ℕ} 0 1 = cc in omega arith

-- ---- the run of a record

module _ (words : List ℕ) (start i : ℕ) {s : State} (left : left_by (take i (body_of words)) start ≡ on s) where
  -- one step further
  pub left_next : {t : State} → i < length words → elementary (step_of (get_or words i 0)) s ≡ on t → left_by (take (i + 1) (body_of words)) start ≡ on t
  left_next {t} l e =
      let n : i + 1 ≡ suc i = omega arith in
      let f : take (i + 1) (body_of words) ≡ take i (body_of words) ++ (get_or (body_of words) i (query 0) ∷ []) =
      ap (λ (n : ℕ). take n (body_of words)) n ∙ take-suc (body_of words) i (query 0) (omega (arith, length-map words step_of)) in
      subst (λ (l : List Step). left_by l start ≡ on t) (sym f)
      (left_join (take i (body_of words)) _ start t s left (one_left _ s t (ap (λ (x : Step). elementary x s) (step_at_word words i) ∙ e)))

  -- the steps run up to one that cannot, or all of them
  pub ran_stops : i < length words → elementary (step_of (get_or words i 0)) s ≡ stuck → Ran (body_of words) start i
  ran_stops l e = record {
    within = omega (arith, length-map words step_of);
    state = s;
    left = left;
    stops = λ h. ap (λ (x : Step). elementary x s) (step_at_word words i) ∙ e;
  }

  pub ran_all : i ≡ length words → Ran (body_of words) start i
  ran_all e = record {
    within = omega (arith, length-map words step_of);
    state = s;
    left = left;
    stops = λ h. absurd (omega (arith, length-map words step_of));
  }

module _ (steps : List Step) (start : State) (runs : ℕ) (ran : Ran steps start runs) where
  -- what the first i steps leave
  abbrev pub At : ℕ → State → Type 0
  At i D = left_by (take i steps) start ≡ on D

  pub state_at : (i : ℕ) → i ≤ runs → (D : State) × At i D
  state_at i l =
      let n : runs ≡ i + (runs - i) = omega arith in
      let e : take runs steps ≡ take i steps ++ take (runs - i) (drop i steps) = ap (λ (n : ℕ). take n steps) n ∙ take-add i (runs - i) steps in
      let (u, f, g) = left_split (take i steps) (take (runs - i) (drop i steps)) start ran.state (subst (λ (l : List Step). left_by l start ≡ on ran.state) e ran.left) in
      (u, f)

  pub same_at : (i : ℕ) {D E : State} → At i D → At i E → D ≡ E
  same_at i e f = on_same (sym e ∙ f)

  -- one step further
  pub step_at : (i : ℕ) {D : State} → i < runs → At i D → (E : State) × At (suc i) E × (elementary (get_or steps i (query 0)) D ≡ on E)
  step_at i {D} l at = by (state_at (suc i) (omega arith))
    where
      x : Step
      x = get_or steps i (query 0)

      at_next : (E : State) → At (suc i) E → (u : State) × At i u × (left_by (x ∷ []) u ≡ on E)
      at_next E h = left_split (take i steps) (x ∷ []) start E
          (subst (λ (l : List Step). left_by l start ≡ on E) (take-suc steps i (query 0) (omega (arith, ran.within))) h)

      with_u : (E : State) → At (suc i) E → ((u : State) × At i u × (left_by (x ∷ []) u ≡ on E)) → (E : State) × At (suc i) E × (elementary x D ≡ on E)
      with_u E h (u, f, g) = (E, h, left_one x D E (subst (λ (v : State). left_by (x ∷ []) v ≡ on E) (same_at i f at) g))

      by : ((E : State) × At (suc i) E) → (E : State) × At (suc i) E × (elementary x D ≡ on E)
      by (E, h) = with_u E h (at_next E h)

  -- a step that can run takes its place to the next, which is a place too
  pub next_at : (i : ℕ) {D E : State} → i < length steps → i ≤ runs → At i D → elementary (get_or steps i (query 0)) D ≡ on E → (i < runs) × At (suc i) E
  next_at i {D} {E} l r at e = (
    elim (dec_lt i runs) [ yes h ↦ h | no h ↦ absurd (stopped (omega arith)) ],
    subst (λ (l : List Step). left_by l start ≡ on E) (sym (take-suc steps i (query 0) l)) (left_join (take i steps) _ start E D at (one_left _ D E e)),
  )
    where
      stopped : i ≡ runs → ⊥
      stopped z =
          let f : D ≡ ran.state = on_same (sym at ∙ ap (λ (n : ℕ). left_by (take n steps) start) z ∙ ran.left) in
          not_on (sym (ran.stops (omega arith)) ∙ sym (ap (λ (n : ℕ). elementary (get_or steps n (query 0)) ran.state) z) ∙ sym (ap (λ (v : State). elementary (get_or steps i (query 0)) v) f) ∙ e)

  -- a place has a state exactly up to the first step that cannot run
  pub place_at : (i : ℕ) {D : State} → i ≤ length steps → At i D → i ≤ runs
  place_at i {D} l at = elim (dec_lt runs i) [ yes h ↦ absurd (beyond h) | no h ↦ omega arith ]
    where
      still : (v u : State) → runs < length steps → At runs v → left_by (get_or steps runs (query 0) ∷ []) v ≡ on u → ⊥
      still v u m f g =
          let z : v ≡ ran.state = on_same (sym f ∙ ran.left) in
          not_on (sym (ran.stops m) ∙ subst (λ (w : State). elementary (get_or steps runs (query 0)) w ≡ on u) z (left_one _ v u g))

      further : runs < length steps → (u : State) → At (suc runs) u → ⊥
      further m u f =
          let (v, f', g') = left_split (take runs steps) (get_or steps runs (query 0) ∷ []) start u (subst (λ (l : List Step). left_by l start ≡ on u) (take-suc steps runs (query 0) m) f) in
          still v u m f' g'

      beyond : runs < i → ⊥
      beyond h =
          let n : i ≡ suc runs + (i - suc runs) = omega arith in
          let e : take i steps ≡ take (suc runs) steps ++ take (i - suc runs) (drop (suc runs) steps) = ap (λ (n : ℕ). take n steps) n ∙ take-add (suc runs) (i - suc runs) steps in
          let (u, f, g) = left_split (take (suc runs) steps) (take (i - suc runs) (drop (suc runs) steps)) start D (subst (λ (l : List Step). left_by l start ≡ on D) e at) in
          further (omega arith) u f

  -- ---- executions over places
  module _ {Has : ℕ → Body → Type 0} where
    -- what is executed over places spends the record between them
    pub place_spends : {i j : ℕ} {body : Body} {D : State} → Runs (Carried steps runs) Has i body j → i ≤ runs → At i D
        → (E : State) × At j E × Runs Spends Has (D, drop i steps) body (E, drop j steps)
    place_spends {i} {D = D} ended l at = (D, at, ended)
    place_spends {i} {j} {D = D} (does {D₁ = i'} {rest = rest} (carries {x = x} h e) p) l at =
        let (E, at', f) = step_at i h at in
        let d : Does x D E = elementary_does x D E (subst (λ (y : Step). elementary y D ≡ on E) e f) in
        let (F, g, q) = place_spends p (omega arith) at' in
        let s : drop i steps ≡ x ∷ drop (suc i) steps = drop-cons steps i (query 0) (omega (arith, ran.within)) ∙ ap (λ (y : Step). y ∷ drop (suc i) steps) e in
        (F, g, subst (λ (u : List Step). Runs Spends Has (D, u) (x ∷ rest) (F, drop j steps)) (sym s) (does (spends d) q))
    place_spends (uses h i p) l at =
        let (E, at', q) = place_spends i l at in
        let (F, at'', r) = place_spends p (runs_up i l).1 at' in
        (F, at'', uses h q r)

    -- and what spends the record from a place comes to a place
    module _ (low : (i : ℕ) → i < length steps → Low (get_or steps i (query 0))) where
      pub spends_place : {s t : Left} {body : Body} → Runs Spends Has s body t → (i : ℕ) → i ≤ runs → At i s.0 → s.1 ≡ drop i steps
          → (j : ℕ) × At j t.0 × (t.1 ≡ drop j steps) × Runs (Carried steps runs) Has i body j
      spends_place ended i l at e = (i, at, e, ended)
      spends_place {t = t} (does {rest = more} (spends {x} {D} {D'} {rest} h) p) i l at e =
          let m : i < length steps = elim (dec_lt i (length steps)) [ yes m ↦ m | no m ↦ absurd (not_nil (e ∙ drop_of_length-le steps {i = i} (omega arith))) ] in
          let c : x ∷ rest ≡ get_or steps i (query 0) ∷ drop (suc i) steps = e ∙ drop-cons steps i (query 0) m in
          let f : get_or steps i (query 0) ≡ x = cc in
          let g : rest ≡ drop (suc i) steps = cc in
          let k : elementary (get_or steps i (query 0)) D ≡ on D' = ap (λ (y : Step). elementary y D) f ∙ does_elementary x D D' (subst Low f (low i m)) h in
          let (r, at') = next_at i m l at k in
          let (j, at'', e', q) = spends_place p (suc i) (omega arith) at' g in
          (j, at'', e', does (carries r f) q)
      spends_place (uses h a p) i l at e =
          let (k, at', e', q) = spends_place a i l at e in
          let (j, at'', e'', r) = spends_place p k (runs_up q l).1 at' e' in
          (j, at'', e'', uses h q r)
