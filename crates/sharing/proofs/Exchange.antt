-- A run has as many calls and answers whatever number its goal stands under: no accepted step calls 64 or more. Assumes nothing.
use Prim.Native.Nat.{ℕ, ◌<◌, ◌≤◌}
use native.Mathlib.Omega.{arith}
use mathlib.Core.Path.{◌≡◌, refl, sym, ap, subst, ◌∙◌}
use mathlib.Core.Bool.{cond}
use mathlib.Core.List.Memᴰ
use mathlib.Core.List.{List, [], ◌∷◌, map, Memᴰ}
use mathlib.Core.Logic.{◌↔◌, ◌≢◌, ◌⊎◌, inl, inr}
use lib.ListN.{length, length-map}
use lib.Dec.{eqb}
use borrow.Author.Tests.{eq-eqb, ne_eqb}
use Rattle.steps.specs.State.{State}
use Rattle.steps.specs.Step.{call, Body}
use Rattle.steps.specs.Deduction.{Final, ComesToCall}
use Rattle.steps.specs.Run.{Run, Call, Answer}
use Rattle.steps.specs.Acceptance.{refusal_of}
use Rattle.steps.specs.Words.{run_of}
use Rattle.steps.specs.Counting.{Distinct, none, more, Exactly, Outnumbers}
use Rattle.steps.proofs.AcceptanceLaws.{start_accepted, accepted_calls}
use Rattle.sharing.specs.Charged.{CallAs, AnswerAs}

-- ---- things of one kind for things of another, one for one

module _ {A B : Type 0} (P : A → Type 0) (Q : B → Type 0) (f : A → B) (g : B → A) (to : (x : A) → P x → Q (f x)) (back : (x : A) → P x → g (f x) ≡ x) where
  distinct_map : {xs : List A} → Distinct xs → ((x : A) → Memᴰ x xs → P x) → Distinct (map f xs)
  distinct_map none all = none
  distinct_map (more {x} {xs} new d) all = more (λ y m. fresh y (Memᴰ.of_map f xs m)) (distinct_map d (λ y m. all y (Memᴰ.tail m)))
    where
      fresh : (y : B) → (z : A) × Memᴰ z xs × (f z ≡ y) → y ≢ f x
      fresh y (z, m, e) q = new z m (sym (back z (all z (Memᴰ.tail m))) ∙ ap g (e ∙ q) ∙ back x (all x (Memᴰ.head refl)))

  map_all : {xs : List A} → ((x : A) → Memᴰ x xs → P x) → (y : B) → Memᴰ y (map f xs) → Q y
  map_all {xs} all y m = let (x, n, e) = Memᴰ.of_map f xs m in subst Q e (to x (all x n))

  pub outnumbers_exchanged : (n : ℕ) → Outnumbers P n → Outnumbers Q n
  outnumbers_exchanged n (xs, d, all, long) = (map f xs, distinct_map d all, map_all all, length-map xs f ∙ long)

  pub exactly_exchanged : ((y : B) → Q y → P (g y)) → ((y : B) → Q y → f (g y) ≡ y) → {xs : List A} → Exactly P xs → Exactly Q (map f xs)
  exactly_exchanged from forth {xs} e = record {
    once = distinct_map e.once (λ x m. (e.members x).0 m);
    members = λ y. (map_all (λ x m. (e.members x).0 m) y, λ q. Memᴰ.cast (sym (forth y q)) (Memᴰ.map f ((e.members (g y)).1 (from y q))));
  }

-- ---- a run's calls and answers

-- The action g for s; any other stays.
abbrev renamed : ℕ → ℕ → ℕ → ℕ
renamed s g a = cond (eqb a s) g a

renamed_goal : (s g : ℕ) → renamed s g s ≡ g
renamed_goal s g = rw (eq-eqb s s refl) refl

renamed_other : (s g a : ℕ) → a ≢ s → renamed s g a ≡ a
renamed_other s g a n = rw (ne_eqb a s n) refl

module _ (run : Run) (low : (a : ℕ) (D : State) → ComesToCall run.book run.start run.goal a D → a < 64) (s g : ℕ) (high : 64 ≤ s) where
  abbrev call_as : ℕ × State → ℕ × State
  call_as c = (renamed s g c.0, c.1)

  abbrev answer_as : ℕ × State × State → ℕ × State × State
  answer_as c = (renamed s g c.0, c.1, c.2)

  call_to : (c : ℕ × State) → CallAs s run c → CallAs g run (call_as c)
  call_to (a, D) (inl (e, d)) = inl (ap (renamed s g) e ∙ renamed_goal s g, d)
  call_to (a, D) (inr h) = inr (subst (λ (b : ℕ). ComesToCall run.book run.start run.goal b D) (sym (renamed_other s g a (λ e. omega (arith, low a D h)))) h)

  call_back : 64 ≤ g → (a : ℕ) (D : State) → CallAs s run (a, D) → renamed g s (renamed s g a) ≡ a
  call_back k a D (inl (e, d)) = ap (λ (b : ℕ). renamed g s (renamed s g b)) e ∙ ap (renamed g s) (renamed_goal s g) ∙ renamed_goal g s ∙ sym e
  call_back k a D (inr h) =
      let l = low a D h in
      ap (renamed g s) (renamed_other s g a (λ e. omega (arith, l))) ∙ renamed_other g s a (λ e. omega (arith, l))

  -- the body of a call
  body_as : ℕ → ℕ → Body
  body_as t a = cond (eqb a t) run.goal (call a ∷ [])

  body_renamed : 64 ≤ g → (a : ℕ) (D : State) → CallAs s run (a, D) → body_as g (renamed s g a) ≡ body_as s a
  unfolding body_as
  body_renamed k a D (inl (e, d)) =
      ap (λ (b : ℕ). cond (eqb b g) run.goal (call b ∷ [])) (ap (renamed s g) e ∙ renamed_goal s g)
      ∙ rw (eq-eqb g g refl) (sym (rw (eq-eqb a s e) refl))
  body_renamed k a D (inr h) =
      let l = low a D h in
      ap (λ (b : ℕ). cond (eqb b g) run.goal (call b ∷ [])) (renamed_other s g a (λ e. omega (arith, l)))
      ∙ rw (ne_eqb a g (λ e. omega (arith, l)), ne_eqb a s (λ e. omega (arith, l))) refl

  answer_to : 64 ≤ g → (c : ℕ × State × State) → AnswerAs s run c → AnswerAs g run (answer_as c)
  unfolding body_as
  answer_to k (a, D, D') (c, f) = (call_to (a, D) c, subst (λ (b : Body). Final run.book D b D') (sym (body_renamed k a D c)) f)

-- Under either number there are as many.
module _ (run : Run) (low : (a : ℕ) (D : State) → ComesToCall run.book run.start run.goal a D → a < 64) (s g : ℕ) (high : 64 ≤ s) (high' : 64 ≤ g) where
  calls_back : (c : ℕ × State) → CallAs s run c → call_as run low g s high' (call_as run low s g high c) ≡ c
  calls_back c h = λ i. (call_back run low s g high high' c.0 c.1 h i, c.1)

  answers_back : (c : ℕ × State × State) → AnswerAs s run c → answer_as run low g s high' (answer_as run low s g high c) ≡ c
  answers_back c (h, f) = λ i. (call_back run low s g high high' c.0 c.1 h i, c.1, c.2)

  pub calls_outnumber : (n : ℕ) → Outnumbers (CallAs s run) n → Outnumbers (CallAs g run) n
  calls_outnumber n = outnumbers_exchanged (CallAs s run) (CallAs g run) (call_as run low s g high) (call_as run low g s high') (call_to run low s g high) calls_back n

  pub answers_outnumber : (n : ℕ) → Outnumbers (AnswerAs s run) n → Outnumbers (AnswerAs g run) n
  answers_outnumber n = outnumbers_exchanged (AnswerAs s run) (AnswerAs g run) (answer_as run low s g high) (answer_as run low g s high') (answer_to run low s g high high') answers_back n

  pub calls_exchanged : {xs : List (ℕ × State)} → Exactly (CallAs s run) xs → Exactly (CallAs g run) (map (call_as run low s g high) xs)
  calls_exchanged = exactly_exchanged (CallAs s run) (CallAs g run) (call_as run low s g high) (call_as run low g s high') (call_to run low s g high) calls_back
      (call_to run low g s high') (λ c h i. (call_back run low g s high' high c.0 c.1 h i, c.1))

  pub answers_exchanged : {xs : List (ℕ × State × State)} → Exactly (AnswerAs s run) xs → Exactly (AnswerAs g run) (map (answer_as run low s g high) xs)
  answers_exchanged = exactly_exchanged (AnswerAs s run) (AnswerAs g run) (answer_as run low s g high) (answer_as run low g s high') (answer_to run low s g high high') answers_back
      (answer_to run low g s high' high) (λ c h i. (call_back run low g s high' high c.0 c.1 h.0 i, c.1, c.2))

-- No accepted step calls 64 or more.
pub accepted_low : (fluents actions : ℕ) (rules goal : List ℕ) (start : State) → refusal_of fluents actions rules goal start ≡ 0
    → (a : ℕ) (D : State) → ComesToCall (run_of rules goal start).book start (run_of rules goal start).goal a D → a < 64
accepted_low fluents actions rules goal start e a D h =
    omega (arith, (accepted_calls fluents actions rules goal start e a D h).0, (start_accepted fluents actions rules goal start e).0.few_actions)
