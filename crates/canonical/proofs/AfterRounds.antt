-- The rows after each round: each begins with the one before; where a record came from; the order of the records; how many rounds there can be.
-- Assumes nothing.
use Prim.Native.Nat.{ℕ, zero, suc, ◌+◌, ◌/◌, ◌<◌, ◌≤◌}
use native.Mathlib.Omega.{arith}
use native.Mathlib.Decide.{dec_lt}
use mathlib.Core.Path.{◌≡◌, refl, sym, ap, subst, ◌∙◌}
use mathlib.Core.List.Memᴰ
use mathlib.Core.List.{List, [], ◌∷◌, ◌++◌, append-nil, Memᴰ}
use mathlib.Core.Logic.{◌⊎◌, inl, inr, ⊎_elim, ◌≢◌}
use lib.ListN.{length, length-append}
use Rattle.steps.specs.State.{State}
use Rattle.steps.specs.Run.{Goal}
use Rattle.steps.specs.Widths.{rule_width}
use Rattle.records.specs.Records.{goal_rule}
use Rattle.tabling.proofs.Sweep.{first_or, last_or}
use Rattle.canonical.specs.Order.{Key}
use Rattle.canonical.specs.Rows.{CallRow, AnswerRow, Rows, call_key, answer_key}
use Rattle.canonical.specs.Rounds.{add_round, after_round, Settled}
use Rattle.canonical.proofs.Ordered.{Ordered, none, more, ordered_one, ordered_append}
use Rattle.sorting.specs.Shuffled.{Before}
use Rattle.canonical.proofs.Keys.{Rising, Keyed, before_not}
use Rattle.canonical.proofs.Onward.{answer_at, no_answer}
use Rattle.canonical.proofs.Found.{CallFound, AnswerFound}
use Rattle.canonical.proofs.OneRound.{Grown, grown_is, round_grown}
use Rattle.canonical.proofs.Prefix.{place_of, Prefix, prefix_refl, prefix_trans}

pub ordered_up : {A : Type 0} {R S : A → A → Type 0} {xs : List A} → ((x y : A) → R x y → S x y) → Ordered R xs → Ordered S xs
ordered_up up none = none
ordered_up up (more {x} low o) = more (λ y m. up x y (low y m)) (ordered_up up o)

-- R-7's order: by round, then by key.
abbrev pub ByRound : {A : Type 0} → (A → ℕ) → (A → Key) → A → A → Type 0
ByRound round key x y = (round x < round y) ⊎ ((round x ≡ round y) × Before (key x) (key y))

-- No key twice.
abbrev pub Once : {A : Type 0} → (A → Key) → List A → Type 0
Once {A} key xs = Ordered (λ (x y : A). key x ≡ key y → ⊥) xs

abbrev pub size : Rows → ℕ
size t = length t.calls + length t.answers

module _ (rules goal : List ℕ) (few : length rules / rule_width ≤ goal_rule) (start : State) where
  abbrev pub T : ℕ → Rows
  T n = after_round rules goal start n

  pub grown_at : (n : ℕ) → Grown rules goal (suc n) (T n) (T (suc n))
  unfolding after_round
  grown_at n = round_grown rules goal few (suc n) (T n)

  pub first_calls : (T 0).calls ≡ record { action = Goal; state = start; round = 0 } ∷ []
  unfolding after_round
  first_calls = refl

  pub first_answers : (T 0).answers ≡ []
  unfolding after_round
  first_answers = refl

  -- ---- each begins with the one before
  pub after_next : (n : ℕ) → Prefix (T n) (T (suc n))
  after_next n = let g = grown_at n in record { calls_more = g.new_calls; answers_more = g.new_answers; calls_are = g.calls_are; answers_are = g.answers_are }

  pub after_prefix : (n m : ℕ) → n ≤ m → Prefix (T n) (T m)
  after_prefix n zero h = let z : n ≡ 0 = omega arith in subst (λ (k : ℕ). Prefix (T k) (T 0)) (sym z) (prefix_refl (T 0))
  after_prefix n (suc m) h = by (first_or h) (λ l. after_prefix n m l)
    where
      by : (n < suc m) ⊎ (n ≡ suc m) → (n ≤ m → Prefix (T n) (T m)) → Prefix (T n) (T (suc m))
      by (inl l) k = prefix_trans (k (omega arith)) (after_next m)
      by (inr e) k = subst (λ (j : ℕ). Prefix (T j) (T (suc m))) (sym e) (prefix_refl (T (suc m)))

  -- ---- where a record came from

  -- Answer record x came in round k + 1: it was found over the rows of the rounds up to k, and stands behind all their answers.
  pub record AnswerCame (x : ℕ) (a : AnswerRow) (n : ℕ) : Type 0 where
    pub k : ℕ
    pub earlier : k < n
    pub round_is : a.round ≡ suc k
    pub behind : length (T k).answers ≤ x
    pub found : AnswerFound rules goal (T k) a
    pub fresh : Keyed answer_key (T k).answers (answer_key a) → ⊥

  pub answer_came : (n x : ℕ) → x < length (T n).answers → AnswerCame x (answer_at (T n).answers x) n
  answer_came zero x l = absurd (omega (arith, ap length first_answers))
  answer_came (suc n) x l = by (answer_came n x) (place_of no_answer (T n).answers (grown_at n).new_answers x (subst (λ (l : List AnswerRow). x < length l) (grown_at n).answers_are l))
    where
      at : answer_at (T (suc n)).answers x ≡ answer_at ((T n).answers ++ (grown_at n).new_answers) x
      at = ap (λ (l : List AnswerRow). answer_at l x) (grown_at n).answers_are

      by : (x < length (T n).answers → AnswerCame x (answer_at (T n).answers x) n)
          → ((x < length (T n).answers) × (answer_at ((T n).answers ++ (grown_at n).new_answers) x ≡ answer_at (T n).answers x)) ⊎ ((length (T n).answers ≤ x) × Memᴰ (answer_at ((T n).answers ++ (grown_at n).new_answers) x) (grown_at n).new_answers)
          → AnswerCame x (answer_at (T (suc n)).answers x) (suc n)
      by old (inl (h, e)) =
          let c = old h in
          subst (λ (a : AnswerRow). AnswerCame x a (suc n)) (sym (at ∙ e)) (record { k = c.k; earlier = omega (arith, c.earlier); round_is = c.round_is; behind = c.behind; found = c.found; fresh = c.fresh })
      by old (inr (h, m)) =
          let a = answer_at ((T n).answers ++ (grown_at n).new_answers) x in
          let (f, r) = (grown_at n).answers_found a m in
          subst (λ (a : AnswerRow). AnswerCame x a (suc n)) (sym at) (record { k = n; earlier = omega arith; round_is = r; behind = h; found = f; fresh = (grown_at n).answers_fresh a m })

  -- A call record is the goal's, or came in round k + 1.
  pub record CallCame (c : CallRow) (n : ℕ) : Type 0 where
    pub k : ℕ
    pub earlier : k < n
    pub round_is : c.round ≡ suc k
    pub found : CallFound rules goal (T k) (call_key c)

  abbrev pub Came : CallRow → ℕ → Type 0
  Came c n = (c ≡ record { action = Goal; state = start; round = 0 }) ⊎ CallCame c n

  pub call_came : (n : ℕ) (c : CallRow) → Memᴰ c (T n).calls → Came c n
  call_came zero c m = inl (Memᴰ.eq_of_singleton (subst (Memᴰ c) first_calls m))
  call_came (suc n) c m = by (λ l. call_came n c l) (Memᴰ.append_cases (T n).calls (subst (Memᴰ c) (grown_at n).calls_are m))
    where
      by : (Memᴰ c (T n).calls → Came c n) → Memᴰ c (T n).calls ⊎ Memᴰ c (grown_at n).new_calls → Came c (suc n)
      by old (inl l) = ⊎_elim inl (λ d. inr (record { k = d.k; earlier = omega (arith, d.earlier); round_is = d.round_is; found = d.found })) (old l)
      by old (inr l) = let (f, r) = (grown_at n).calls_found c l in inr (record { k = n; earlier = omega arith; round_is = r; found = f })

  -- no round is past n
  pub call_rounds : (n : ℕ) (c : CallRow) → Memᴰ c (T n).calls → c.round ≤ n
  call_rounds n c m = ⊎_elim (λ e. omega (arith, ap (λ (c : CallRow). c.round) e)) (λ d. omega (arith, d.earlier, d.round_is)) (call_came n c m)

  pub answer_rounds : (n : ℕ) (a : AnswerRow) → Memᴰ a (T n).answers → a.round ≤ n
  answer_rounds zero a m = absurd (Memᴰ.not-nil (subst (Memᴰ a) first_answers m))
  answer_rounds (suc n) a m = ⊎_elim (λ l. omega (arith, answer_rounds n a l)) (λ l. omega (arith, ((grown_at n).answers_found a l).1)) (Memᴰ.append_cases (T n).answers (subst (Memᴰ a) (grown_at n).answers_are m))

  -- ---- the records' order (R-7), each once

  pub calls_by_round : (n : ℕ) → Ordered (ByRound (λ (c : CallRow). c.round) call_key) (T n).calls
  calls_by_round zero = subst (Ordered (ByRound (λ (c : CallRow). c.round) call_key)) (sym first_calls) (ordered_one _)
  calls_by_round (suc n) = subst (Ordered (ByRound (λ (c : CallRow). c.round) call_key)) (sym (grown_at n).calls_are)
      (ordered_append (calls_by_round n) (new_by (grown_at n).new_calls (λ c m. ((grown_at n).calls_found c m).1) (grown_at n).calls_rise) (λ x y l m. inl (omega (arith, call_rounds n x l, ((grown_at n).calls_found y m).1))))
    where
      new_by : (cs : List CallRow) → ((c : CallRow) → Memᴰ c cs → c.round ≡ suc n) → Rising call_key cs → Ordered (ByRound (λ (c : CallRow). c.round) call_key) cs
      new_by cs r none = none
      new_by cs r (more {x} {xs} low o) = more (λ y m. inr (r x (Memᴰ.head refl) ∙ sym (r y (Memᴰ.tail m)), low y m)) (new_by xs (λ c m. r c (Memᴰ.tail m)) o)

  pub answers_by_round : (n : ℕ) → Ordered (ByRound (λ (a : AnswerRow). a.round) answer_key) (T n).answers
  answers_by_round zero = subst (Ordered (ByRound (λ (a : AnswerRow). a.round) answer_key)) (sym first_answers) none
  answers_by_round (suc n) = subst (Ordered (ByRound (λ (a : AnswerRow). a.round) answer_key)) (sym (grown_at n).answers_are)
      (ordered_append (answers_by_round n) (new_by (grown_at n).new_answers (λ c m. ((grown_at n).answers_found c m).1) (grown_at n).answers_rise) (λ x y l m. inl (omega (arith, answer_rounds n x l, ((grown_at n).answers_found y m).1))))
    where
      new_by : (cs : List AnswerRow) → ((c : AnswerRow) → Memᴰ c cs → c.round ≡ suc n) → Rising answer_key cs → Ordered (ByRound (λ (a : AnswerRow). a.round) answer_key) cs
      new_by cs r none = none
      new_by cs r (more {x} {xs} low o) = more (λ y m. inr (r x (Memᴰ.head refl) ∙ sym (r y (Memᴰ.tail m)), low y m)) (new_by xs (λ c m. r c (Memᴰ.tail m)) o)

  pub calls_once : (n : ℕ) → Once call_key (T n).calls
  calls_once zero = subst (Once call_key) (sym first_calls) (ordered_one _)
  calls_once (suc n) = subst (Once call_key) (sym (grown_at n).calls_are) (ordered_append (calls_once n) (ordered_up (λ x y b. before_not b) (grown_at n).calls_rise) (λ x y l m e. (grown_at n).calls_fresh y m (x, l, e)))

  pub answers_once : (n : ℕ) → Once answer_key (T n).answers
  answers_once zero = subst (Once answer_key) (sym first_answers) none
  answers_once (suc n) = subst (Once answer_key) (sym (grown_at n).answers_are) (ordered_append (answers_once n) (ordered_up (λ x y b. before_not b) (grown_at n).answers_rise) (λ x y l m e. (grown_at n).answers_fresh y m (x, l, e)))

  -- ---- how many rounds

  -- a round that adds something adds a record
  pub round_adds : (n : ℕ) → T (suc n) ≢ T n → size (T n) < size (T (suc n))
  round_adds n d = by (grown_at n).new_calls (grown_at n).new_answers (grown_at n).calls_are (grown_at n).answers_are
    where
      by : (cs : List CallRow) (rs : List AnswerRow) → (T (suc n)).calls ≡ (T n).calls ++ cs → (T (suc n)).answers ≡ (T n).answers ++ rs → size (T n) < size (T (suc n))
      by [] [] e f = absurd (d (λ i. record { calls = (e ∙ append-nil (T n).calls) i; answers = (f ∙ append-nil (T n).answers) i }))
      by [] (a ∷ rs) e f = omega (arith, ap length e, ap length f, length-append (T n).calls [], length-append (T n).answers (a ∷ rs))
      by (c ∷ cs) rs e f = omega (arith, ap length e, ap length f, length-append (T n).calls (c ∷ cs), length-append (T n).answers rs)

  -- one that leaves as many records adds nothing
  pub round_still : (n : ℕ) → size (T (suc n)) ≡ size (T n) → T (suc n) ≡ T n
  round_still n z = by (grown_at n).new_calls (grown_at n).new_answers (grown_at n).calls_are (grown_at n).answers_are
    where
      by : (cs : List CallRow) (rs : List AnswerRow) → (T (suc n)).calls ≡ (T n).calls ++ cs → (T (suc n)).answers ≡ (T n).answers ++ rs → T (suc n) ≡ T n
      by [] [] e f = λ i. record { calls = (e ∙ append-nil (T n).calls) i; answers = (f ∙ append-nil (T n).answers) i }
      by [] (a ∷ rs) e f = absurd (omega (arith, ap length e, ap length f, length-append (T n).calls [], length-append (T n).answers (a ∷ rs)))
      by (c ∷ cs) rs e f = absurd (omega (arith, ap length e, ap length f, length-append (T n).calls (c ∷ cs), length-append (T n).answers rs))

  -- so sizes alone show how many rounds added something
  pub settled_by_sizes : (n : ℕ) → ((r : ℕ) → r < n → size (T (suc r)) ≢ size (T r)) → size (T (suc n)) ≡ size (T n) → Settled rules goal start n
  settled_by_sizes n up z = record { added = λ r l e. up r l (ap size e); still = round_still n z }

  pub rounds_size : (n : ℕ) → ((r : ℕ) → r < n → T (suc r) ≢ T r) → n < size (T n)
  rounds_size zero added = omega (arith, ap length first_calls)
  rounds_size (suc n) added = omega (arith, rounds_size n (λ r l. added r (omega arith)), round_adds n (added n (omega arith)))

  -- "At most calls plus answers less 1."
  pub settled_size : {n : ℕ} → Settled rules goal start n → n < size (T n)
  settled_size {n} s = rounds_size n s.added

  -- Only one number of rounds settles.
  pub settled_once : {n m : ℕ} → Settled rules goal start n → Settled rules goal start m → n ≡ m
  settled_once {n} {m} s u = by (dec_lt n m) (dec_lt m n)
    where
      by : Dec (n < m) → Dec (m < n) → n ≡ m
      by (yes l) d = absurd (u.added n l s.still)
      by (no a) (yes l) = absurd (s.added m l u.still)
      by (no a) (no b) = omega arith

  -- a round that adds nothing leaves nothing to any later round
  still_grown : (n r : ℕ) → T (suc n) ≡ T n → Grown rules goal r (T n) (T n)
  still_grown n r e =
      record {
        new_calls = [];
        new_answers = [];
        calls_are = sym (append-nil (T n).calls);
        answers_are = sym (append-nil (T n).answers);
        calls_rise = none;
        answers_rise = none;
        calls_found = λ c m. absurd (Memᴰ.not-nil m);
        answers_found = λ a m. absurd (Memᴰ.not-nil m);
        calls_fresh = λ c m. absurd (Memᴰ.not-nil m);
        answers_fresh = λ a m. absurd (Memᴰ.not-nil m);
        calls_all = λ d f. subst (λ (t : Rows). Keyed call_key t.calls d) e ((grown_at n).calls_all d f);
        answers_all = λ a f. subst (λ (t : Rows). Keyed answer_key t.answers (answer_key a)) e ((grown_at n).answers_all a f);
        least = λ a b m. absurd (Memᴰ.not-nil m);
      }

  pub settled_stays : (n : ℕ) → T (suc n) ≡ T n → (m : ℕ) → n ≤ m → T m ≡ T n
  unfolding after_round
  settled_stays n e zero h = let z : n ≡ 0 = omega arith in ap T (sym z)
  settled_stays n e (suc m) h = by (first_or h) (λ l. settled_stays n e m l)
    where
      by : (n < suc m) ⊎ (n ≡ suc m) → (n ≤ m → T m ≡ T n) → add_round rules goal (suc m) (T m) ≡ T n
      by (inl l) k = let z : T m ≡ T n = k (omega arith) in subst (λ (t : Rows). add_round rules goal (suc m) t ≡ T n) (sym z) (sym (grown_is rules goal few (suc m) (T n) (still_grown n (suc m) e)))
      by (inr q) k = sym (ap T q)

  -- ---- the rounds as the code counts them

  -- Round r is over, and every round so far added something.
  pub record Running (r : ℕ) (t : Rows) : Type 0 where
    pub is : t ≡ T r
    pub added : (q : ℕ) → q < r → T (suc q) ≢ T q

  pub running_start : {t : Rows} → t ≡ T 0 → Running 0 t
  running_start e = record { is = e; added = λ q l. absurd (omega arith) }

  grew_next : {r : ℕ} {t u : Rows} → Running r t → Grown rules goal (suc r) t u → u ≡ T (suc r)
  unfolding after_round
  grew_next {r} {t} {u} R g = grown_is rules goal few (suc r) t g ∙ ap (add_round rules goal (suc r)) R.is

  -- a round that added a record
  pub running_next : {r : ℕ} {t u : Rows} → Running r t → Grown rules goal (suc r) t u → size t < size u → Running (suc r) u
  running_next {r} {t} {u} R g l =
      let e = grew_next R g in
      record { is = e; added = λ q h. ⊎_elim (R.added q) (λ (z : q ≡ r). subst (λ (k : ℕ). T (suc k) ≢ T k) (sym z) (λ w. omega (arith, ap size w, ap size e, ap size R.is))) (last_or h) }

  -- the first round that added none: the rounds before it are those that added something
  pub running_settled : {r : ℕ} {t u : Rows} → Running r t → Grown rules goal (suc r) t u → size t ≡ size u → Settled rules goal start r × (u ≡ T r)
  running_settled {r} {t} {u} R g l =
      let e = grew_next R g in
      let s : T (suc r) ≡ T r = by g.new_calls g.new_answers g.calls_are g.answers_are e in
      (record { added = R.added; still = s }, e ∙ s)
    where
      by : (cs : List CallRow) (rs : List AnswerRow) → u.calls ≡ t.calls ++ cs → u.answers ≡ t.answers ++ rs → u ≡ T (suc r) → T (suc r) ≡ T r
      by [] [] p q e = sym e ∙ (λ i. record { calls = (p ∙ append-nil t.calls) i; answers = (q ∙ append-nil t.answers) i }) ∙ R.is
      by [] (a ∷ rs) p q e = absurd (omega (arith, ap length p, ap length q, length-append t.calls [], length-append t.answers (a ∷ rs)))
      by (c ∷ cs) rs p q e = absurd (omega (arith, ap length p, ap length q, length-append t.calls (c ∷ cs), length-append t.answers rs))
