-- What a round finds, as relations: `found_calls` and `found_answers` hold just this, the answers in the order of call, rule and evidence.
-- Assumes nothing.
use Prim.Native.Nat.{ℕ, zero, suc, ◌+◌, ◌/◌, ◌<◌, ◌≤◌}
use native.Mathlib.Omega.{arith}
use native.Mathlib.Decide.{ℕ_discrete}
use mathlib.Core.Path.{◌≡◌, refl, sym, ap, subst, ◌∙◌}
use mathlib.Core.Bool.{Bool, true, false, cond}
use mathlib.Core.List.Memᴰ
use mathlib.Core.List.{List, [], ◌∷◌, ◌++◌, map, flat_map, Memᴰ}
use mathlib.Core.Logic.{◌⊎◌, inl, inr}
use lib.ListN.{length}
use Rattle.steps.specs.State.{State}
use Rattle.steps.specs.Step.{Body}
use Rattle.steps.specs.Words.{body_of}
use Rattle.steps.specs.Widths.{rule_width}
use Rattle.records.specs.Records.{bodies_of, goal_rule}
use Rattle.records.proofs.Numbers.{fits_cases}
use Rattle.canonical.specs.Rows.{CallRow, AnswerRow, Rows, call_key, call_at, numbers}
use Rattle.canonical.specs.Rounds.{Route, ways, comes_to, rules_of, each_body, found_calls, found_answers}
use Rattle.canonical.proofs.Ordered.{Ordered, none, more, ordered_one, ordered_append, ordered_map, ordered_flat, flat_out, flat_in}
use Rattle.canonical.proofs.Ways.{Lex, lex_one, Along, Comes, ways_out, ways_in, ways_ordered, comes_out, comes_in}

-- ---- numbers
pub numbers_out : {k : ℕ} (i n : ℕ) → Memᴰ k (numbers i n) → (i ≤ k) × (k < i + n)
unfolding numbers
numbers_out i zero m = absurd (Memᴰ.not-nil m)
numbers_out i (suc n) (Memᴰ.head e) = (omega arith, omega arith)
numbers_out i (suc n) (Memᴰ.tail m) = let (a, b) = numbers_out (suc i) n m in (omega arith, omega arith)

pub numbers_in : (k i n : ℕ) → i ≤ k → k < i + n → Memᴰ k (numbers i n)
unfolding numbers
numbers_in k i zero a b = absurd (omega arith)
numbers_in k i (suc n) a b = by (ℕ_discrete k i) (λ d. numbers_in k (suc i) n (omega arith) (omega arith))
  where
    by : Dec (k ≡ i) → ((k ≡ i → ⊥) → Memᴰ k (numbers (suc i) n)) → Memᴰ k (i ∷ numbers (suc i) n)
    by (yes e) f = Memᴰ.head e
    by (no d) f = Memᴰ.tail (f d)

pub numbers_rise : (i n : ℕ) → Ordered (λ (a b : ℕ). a < b) (numbers i n)
unfolding numbers
numbers_rise i zero = none
numbers_rise i (suc n) = more {x = i} (λ k m. let (a, b) = numbers_out (suc i) n m in omega arith) (numbers_rise (suc i) n)

-- ---- justifications in order: the lower rule, then the lesser evidence

abbrev pub Better : AnswerRow → AnswerRow → Type 0
Better x y = (x.rule < y.rule) ⊎ ((x.rule ≡ y.rule) × Lex x.evidence y.evidence)

abbrev pub Prior : AnswerRow → AnswerRow → Type 0
Prior x y = (x.call < y.call) ⊎ ((x.call ≡ y.call) × Better x y)

better_one : (x y : AnswerRow) → Better x y → Better y x → ⊥
better_one x y (inl a) (inl b) = omega arith
better_one x y (inl a) (inr (e, b)) = omega arith
better_one x y (inr (e, a)) (inl b) = omega arith
better_one x y (inr (e, a)) (inr (f, b)) = lex_one a b

pub prior_one : (x y : AnswerRow) → Prior x y → Prior y x → ⊥
prior_one x y (inl a) (inl b) = omega arith
prior_one x y (inl a) (inr (e, b)) = omega arith
prior_one x y (inr (e, a)) (inl b) = omega arith
prior_one x y (inr (e, a)) (inr (f, b)) = better_one x y a b

module _ (rules goal : List ℕ) where
  -- ---- the rules of an action
  pick : ℕ → ℕ → List ℕ
  pick a k = cond ((bodies_of rules goal).fits k a) (k ∷ []) []

  picked : (a k j : ℕ) → Memᴰ j (pick a k) → (j ≡ k) × ((bodies_of rules goal).fits k a ≡ true)
  unfolding pick
  picked a k j m = by ((bodies_of rules goal).fits k a) refl m
    where
      by : (b : Bool) → (bodies_of rules goal).fits k a ≡ b → Memᴰ j (cond b (k ∷ []) []) → (j ≡ k) × ((bodies_of rules goal).fits k a ≡ true)
      by true e l = (Memᴰ.eq_of_singleton l, e)
      by false e l = absurd (Memᴰ.not-nil l)

  pub rules_out : {k : ℕ} (a : ℕ) → Memᴰ k (rules_of rules goal a) → (bodies_of rules goal).fits k a ≡ true
  unfolding rules_of pick
  rules_out {k} a m =
      let (j, l, n) = flat_out (pick a) (numbers 0 (length rules / rule_width) ++ (goal_rule ∷ [])) m in
      let (e, f) = picked a j k n in
      subst (λ (i : ℕ). (bodies_of rules goal).fits i a ≡ true) (sym e) f

  pub rules_in : (k a : ℕ) → (bodies_of rules goal).fits k a ≡ true → Memᴰ k (rules_of rules goal a)
  unfolding rules_of pick
  rules_in k a e = flat_in (pick a) {a = k} {b = k} listed (rw e (Memᴰ.head refl))
    where
      listed : Memᴰ k (numbers 0 (length rules / rule_width) ++ (goal_rule ∷ []))
      listed = fits_cases rules goal k a e _
          (λ z g. Memᴰ.append_right (numbers 0 (length rules / rule_width)) (Memᴰ.head z))
          (λ n l h. Memᴰ.append_left (goal_rule ∷ []) (numbers_in k 0 (length rules / rule_width) (omega arith) (omega arith)))

  module _ (few : length rules / rule_width ≤ goal_rule) where
    pub rules_rise : (a : ℕ) → Ordered (λ (i j : ℕ). i < j) (rules_of rules goal a)
    unfolding rules_of pick
    rules_rise a = ordered_flat (pick a)
        (λ i j x y l m n. (let (e, f) = picked a i x m in let (g, h) = picked a j y n in omega arith))
        (λ k m. one k ((bodies_of rules goal).fits k a))
        (ordered_append (numbers_rise 0 (length rules / rule_width)) (ordered_one goal_rule) (λ x y m n. (let (p, q) = numbers_out 0 (length rules / rule_width) m in let e = Memᴰ.eq_of_singleton n in omega arith)))
      where
        one : (k : ℕ) (b : Bool) → Ordered (λ (i j : ℕ). i < j) (cond b (k ∷ []) [])
        one k true = ordered_one k
        one k false = none

  -- ---- what is found

  -- The walk of some body of call record `row` comes to the call d.
  pub record CallFound (t : Rows) (d : ℕ × State) : Type 0 where
    pub row : ℕ
    pub row_in : row < length t.calls
    pub rule : ℕ
    pub fits : (bodies_of rules goal).fits rule (call_at t.calls row).action ≡ true
    pub comes : Comes t (body_of ((bodies_of rules goal).words rule (call_at t.calls row).action)) (call_at t.calls row).state d

  -- The rule and the evidence of a record justify it over the answers of t.
  pub record AnswerFound (t : Rows) (a : AnswerRow) : Type 0 where
    pub call_in : a.call < length t.calls
    pub fits : (bodies_of rules goal).fits a.rule (call_at t.calls a.call).action ≡ true
    pub along : Along t (body_of ((bodies_of rules goal).words a.rule (call_at t.calls a.call).action)) (call_at t.calls a.call).state a.evidence a.final

  -- Whatever each body gives.
  module _ {B : Type 0} (t : Rows) (f : ℕ → State → ℕ → Body → List B) where
    abbrev pub by_rule : ℕ → ℕ → List B
    by_rule i k = f i (call_at t.calls i).state k (body_of ((bodies_of rules goal).words k (call_at t.calls i).action))

    abbrev by_call : ℕ → List B
    by_call i = flat_map (by_rule i) (rules_of rules goal (call_at t.calls i).action)

    pub each_out : {x : B} → Memᴰ x (each_body rules goal t f)
        → (i : ℕ) × (i < length t.calls) × (k : ℕ) × ((bodies_of rules goal).fits k (call_at t.calls i).action ≡ true) × Memᴰ x (f i (call_at t.calls i).state k (body_of ((bodies_of rules goal).words k (call_at t.calls i).action)))
    unfolding each_body
    each_out m =
        let (i, l, n) = flat_out by_call (numbers 0 (length t.calls)) m in
        let (k, j, o) = flat_out (by_rule i) (rules_of rules goal (call_at t.calls i).action) n in
        let (p, q) = numbers_out 0 (length t.calls) l in
        (i, omega arith, k, rules_out (call_at t.calls i).action j, o)

    pub each_in : {x : B} (i k : ℕ) → i < length t.calls → (bodies_of rules goal).fits k (call_at t.calls i).action ≡ true → Memᴰ x (f i (call_at t.calls i).state k (body_of ((bodies_of rules goal).words k (call_at t.calls i).action))) → Memᴰ x (each_body rules goal t f)
    unfolding each_body
    each_in i k l e m = flat_in by_call (numbers_in i 0 (length t.calls) (omega arith) (omega arith)) (flat_in (by_rule i) (rules_in k (call_at t.calls i).action e) m)

    pub each_ordered : {R : B → B → Type 0} → length rules / rule_width ≤ goal_rule
        → ((i j k l : ℕ) (x y : B) → i < j → Memᴰ x (by_rule i k) → Memᴰ y (by_rule j l) → R x y)
        → ((i k l : ℕ) (x y : B) → k < l → Memᴰ x (by_rule i k) → Memᴰ y (by_rule i l) → R x y)
        → ((i k : ℕ) → Ordered R (by_rule i k)) → Ordered R (each_body rules goal t f)
    unfolding each_body
    each_ordered few rows same one = ordered_flat by_call
        (λ i j x y l m n.
        (let (k, a, o) = flat_out (by_rule i) (rules_of rules goal (call_at t.calls i).action) m in
        let (h, b, p) = flat_out (by_rule j) (rules_of rules goal (call_at t.calls j).action) n in
        rows i j k h x y l o p))
        (λ i m. ordered_flat (by_rule i) (λ k l x y h p q. same i k l x y h p q) (λ k n. one i k) (rules_rise few (call_at t.calls i).action))
        (numbers_rise 0 (length t.calls))

  module _ (r : ℕ) (t : Rows) where
    of_comes : ℕ × State → CallRow
    of_comes d = record { action = d.0; state = d.1; round = r }

    pub calls_out : (x : CallRow) → Memᴰ x (found_calls rules goal r t) → CallFound t (call_key x) × (x.round ≡ r)
    unfolding found_calls of_comes
    calls_out x m =
        let (i, l, k, e, n) = each_out t (λ i s k body. map of_comes (comes_to t body s)) m in
        let (d, h, z) = Memᴰ.of_map of_comes (comes_to t (body_of ((bodies_of rules goal).words k (call_at t.calls i).action)) (call_at t.calls i).state) n in
        let w = comes_out t (body_of ((bodies_of rules goal).words k (call_at t.calls i).action)) (call_at t.calls i).state h in (
          record { row = i; row_in = l; rule = k; fits = e; comes = subst (λ (y : CallRow). Comes t (body_of ((bodies_of rules goal).words k (call_at t.calls i).action)) (call_at t.calls i).state (call_key y)) z w },
          ap (λ (y : CallRow). y.round) (sym z),
        )

    pub calls_in : (x : CallRow) → CallFound t (call_key x) → x.round ≡ r → Memᴰ x (found_calls rules goal r t)
    unfolding found_calls of_comes
    calls_in x f e =
        let y : x ≡ of_comes (call_key x) = λ i. record { action = x.action; state = x.state; round = e i } in
        each_in t (λ i s k body. map of_comes (comes_to t body s)) f.row f.rule f.row_in f.fits (Memᴰ.cast y (Memᴰ.map of_comes (comes_in t f.comes)))

    of_way : ℕ → ℕ → Route → AnswerRow
    of_way i k w = record { call = i; final = w.1; rule = k; evidence = w.0; round = r }

    pub answers_out : (x : AnswerRow) → Memᴰ x (found_answers rules goal r t) → AnswerFound t x × (x.round ≡ r)
    unfolding found_answers of_way
    answers_out x m =
        let (i, l, k, e, n) = each_out t (λ i s k body. map (of_way i k) (ways t body s)) m in
        let (w, h, z) = Memᴰ.of_map (of_way i k) (ways t (body_of ((bodies_of rules goal).words k (call_at t.calls i).action)) (call_at t.calls i).state) n in
        let f : AnswerFound t (of_way i k w) = record { call_in = l; fits = e; along = ways_out t (body_of ((bodies_of rules goal).words k (call_at t.calls i).action)) (call_at t.calls i).state h } in
        (subst (AnswerFound t) z f, ap (λ (y : AnswerRow). y.round) (sym z))

    pub answers_in : (x : AnswerRow) → AnswerFound t x → x.round ≡ r → Memᴰ x (found_answers rules goal r t)
    unfolding found_answers of_way
    answers_in x f e =
        let y : x ≡ of_way x.call x.rule (x.evidence, x.final) = λ i. record { call = x.call; final = x.final; rule = x.rule; evidence = x.evidence; round = e i } in
        each_in t (λ i s k body. map (of_way i k) (ways t body s)) x.call x.rule f.call_in f.fits (Memᴰ.cast y (Memᴰ.map (of_way x.call x.rule) (ways_in t f.along)))

    way_out : (i k : ℕ) (x : AnswerRow) → Memᴰ x (map (of_way i k) (ways t (body_of ((bodies_of rules goal).words k (call_at t.calls i).action)) (call_at t.calls i).state)) → (x.call ≡ i) × (x.rule ≡ k)
    unfolding of_way
    way_out i k x m = let (w, h, e) = Memᴰ.of_map (of_way i k) (ways t (body_of ((bodies_of rules goal).words k (call_at t.calls i).action)) (call_at t.calls i).state) m in (ap (λ (y : AnswerRow). y.call) (sym e), ap (λ (y : AnswerRow). y.rule) (sym e))

    -- The answers are found in the order of their calls, the lower rule first, then the lesser evidence.
    pub answers_ordered : length rules / rule_width ≤ goal_rule → Ordered Prior (found_answers rules goal r t)
    unfolding found_answers of_way
    answers_ordered few = each_ordered t (λ i s k body. map (of_way i k) (ways t body s)) few
        (λ i j k l x y h m n. (let e = (way_out i k x m).0 in let f = (way_out j l y n).0 in inl (omega arith)))
        (λ i k l x y h m n. (let (a, c) = way_out i k x m in let (b, d) = way_out i l y n in inr (a ∙ sym b, inl (omega arith))))
        (λ i k. ordered_map (of_way i k) (λ v w l. inr (refl, inr (refl, l))) (ways_ordered t (body_of ((bodies_of rules goal).words k (call_at t.calls i).action)) (call_at t.calls i).state))
