-- One round, described without the lists of what is found: rows that meet the description are `add_round`, and `add_round` meets it.
-- Assumes nothing.
use Prim.Native.Nat.{ℕ, ◌/◌, ◌≤◌}
use native.Mathlib.Omega.{arith}
use mathlib.Core.Path.{◌≡◌, refl, sym, ap, subst, ◌∙◌}
use mathlib.Core.List.Memᴰ
use mathlib.Core.List.{List, ◌++◌, Memᴰ}
use mathlib.Core.Logic.{◌⊎◌, inl, inr, ⊎_elim}
use lib.ListN.{length}
use Rattle.steps.specs.State.{State}
use Rattle.steps.specs.Widths.{rule_width}
use Rattle.records.specs.Records.{goal_rule}
use Rattle.canonical.specs.Order.{Key, in_order, new_to}
use Rattle.canonical.specs.Rows.{CallRow, AnswerRow, Rows, call_key, answer_key}
use Rattle.canonical.specs.Rounds.{found_calls, found_answers, add_round}
use Rattle.canonical.proofs.Keys.{Rising, Keyed, First, first_member, first_of, first_once, in_order_rising, in_order_first, first_in_order, in_order_is, keyed, new_to_first, new_to_member, first_least, least_first}
use Rattle.canonical.proofs.Found.{Better, Prior, prior_one, CallFound, AnswerFound, calls_out, calls_in, answers_out, answers_in, answers_ordered}

-- a member of two lists together with this key
keyed_left : {A : Type 0} (key : A → Key) {xs : List A} (ys : List A) {k : Key} → Keyed key xs k → Keyed key (xs ++ ys) k
keyed_left key ys (x, m, e) = (x, Memᴰ.append_left ys m, e)

keyed_right : {A : Type 0} (key : A → Key) (xs : List A) {ys : List A} {k : Key} → Keyed key ys k → Keyed key (xs ++ ys) k
keyed_right key xs (x, m, e) = (x, Memᴰ.append_right xs m, e)

keyed_new : {A : Type 0} (key : A → Key) (xs : List A) {ys : List A} {k : Key} → Keyed key (xs ++ ys) k → (Keyed key xs k → ⊥) → Keyed key ys k
keyed_new key xs (x, m, e) n = ⊎_elim (λ l. absurd (n (x, l, e))) (λ l. (x, l, e)) (Memᴰ.append_cases xs m)

pub call_same : (x y : CallRow) → call_key x ≡ call_key y → x.round ≡ y.round → x ≡ y
call_same x y k r = λ i. record { action = (k i).0; state = (k i).1; round = r i }

pub answer_same : (x y : AnswerRow) → answer_key x ≡ answer_key y → x.rule ≡ y.rule → x.evidence ≡ y.evidence → x.round ≡ y.round → x ≡ y
answer_same x y k u v r = λ i. record { call = (k i).0; final = (k i).1; rule = u i; evidence = v i; round = r i }

-- No justification of an answer is better than another.
abbrev pub AsGood : AnswerRow → AnswerRow → Type 0
AsGood x y = ((x.rule ≡ y.rule) × (x.evidence ≡ y.evidence)) ⊎ Better x y

module _ (rules goal : List ℕ) where
  -- What round r leaves, where the rows stood at t before it: the old rows, then the new ones in the order of their keys; the new ones are found over t
  -- and were not there, and all that is found is there; each answer has a justification as good as any.
  pub record Grown (r : ℕ) (t u : Rows) : Type 0 where
    pub new_calls : List CallRow
    pub new_answers : List AnswerRow
    pub calls_are : u.calls ≡ t.calls ++ new_calls
    pub answers_are : u.answers ≡ t.answers ++ new_answers
    pub calls_rise : Rising call_key new_calls
    pub answers_rise : Rising answer_key new_answers
    pub calls_found : (c : CallRow) → Memᴰ c new_calls → CallFound rules goal t (call_key c) × (c.round ≡ r)
    pub answers_found : (a : AnswerRow) → Memᴰ a new_answers → AnswerFound rules goal t a × (a.round ≡ r)
    pub calls_fresh : (c : CallRow) → Memᴰ c new_calls → Keyed call_key t.calls (call_key c) → ⊥
    pub answers_fresh : (a : AnswerRow) → Memᴰ a new_answers → Keyed answer_key t.answers (answer_key a) → ⊥
    pub calls_all : (d : ℕ × State) → CallFound rules goal t d → Keyed call_key u.calls d
    pub answers_all : (a : AnswerRow) → AnswerFound rules goal t a → Keyed answer_key u.answers (answer_key a)
    pub least : (a b : AnswerRow) → Memᴰ a new_answers → AnswerFound rules goal t b → answer_key b ≡ answer_key a → AsGood a b

  module _ (few : length rules / rule_width ≤ goal_rule) (r : ℕ) (t : Rows) where
    pub grown_is : {u : Rows} → Grown r t u → u ≡ add_round rules goal r t
    unfolding add_round
    grown_is {u} g = λ i. record { calls = (g.calls_are ∙ ap (λ (l : List CallRow). t.calls ++ l) calls_is) i; answers = (g.answers_are ∙ ap (λ (l : List AnswerRow). t.answers ++ l) answers_is) i }
      where
        call_first : (c : CallRow) → Memᴰ c g.new_calls → First call_key c (new_to call_key t.calls (found_calls rules goal r t))
        call_first c m =
            let (f, e) = g.calls_found c m in
            let (y, h, k) = first_of call_key (calls_in rules goal r t c f e) in
            let z : y ≡ c = call_same y c k ((calls_out rules goal r t y (first_member call_key h)).1 ∙ sym e) in
            new_to_first call_key t.calls (g.calls_fresh c m) (subst (λ (x : CallRow). First call_key x (found_calls rules goal r t)) z h)

        calls_is : g.new_calls ≡ in_order call_key (new_to call_key t.calls (found_calls rules goal r t))
        calls_is = in_order_is call_key g.calls_rise call_first
            (λ c m. (let (l, n) = new_to_member call_key t.calls (found_calls rules goal r t) m in
            keyed_new call_key t.calls (subst (λ (l : List CallRow). Keyed call_key l (call_key c)) g.calls_are (g.calls_all (call_key c) (calls_out rules goal r t c l).0)) n))

        as_good : (a b : AnswerRow) → answer_key b ≡ answer_key a → a.round ≡ b.round → AsGood a b → (a ≡ b) ⊎ Prior a b
        as_good a b k e (inl (p, q)) = inl (answer_same a b (sym k) p q e)
        as_good a b k e (inr l) = inr (inr (sym (ap (λ (k : Key). k.0) k), l))

        answer_first : (a : AnswerRow) → Memᴰ a g.new_answers → First answer_key a (new_to answer_key t.answers (found_answers rules goal r t))
        answer_first a m =
            let (f, e) = g.answers_found a m in
            new_to_first answer_key t.answers (g.answers_fresh a m)
            (least_first answer_key prior_one (answers_ordered rules goal r t few) (answers_in rules goal r t a f e)
            (λ b l k. (let (h, q) = answers_out rules goal r t b l in as_good a b k (e ∙ sym q) (g.least a b m h k))))

        answers_is : g.new_answers ≡ in_order answer_key (new_to answer_key t.answers (found_answers rules goal r t))
        answers_is = in_order_is answer_key g.answers_rise answer_first
            (λ a m. (let (l, n) = new_to_member answer_key t.answers (found_answers rules goal r t) m in
            keyed_new answer_key t.answers (subst (λ (l : List AnswerRow). Keyed answer_key l (answer_key a)) g.answers_are (g.answers_all a (answers_out rules goal r t a l).0)) n))

    -- what `in_order` of `new_to` holds was found and is new
    call_new : (c : CallRow) → Memᴰ c (in_order call_key (new_to call_key t.calls (found_calls rules goal r t))) → Memᴰ c (found_calls rules goal r t) × (Keyed call_key t.calls (call_key c) → ⊥)
    call_new c m = new_to_member call_key t.calls (found_calls rules goal r t) (first_member call_key (in_order_first call_key (new_to call_key t.calls (found_calls rules goal r t)) m))

    answer_new : (a : AnswerRow) → Memᴰ a (in_order answer_key (new_to answer_key t.answers (found_answers rules goal r t))) → Memᴰ a (found_answers rules goal r t) × (Keyed answer_key t.answers (answer_key a) → ⊥)
    answer_new a m = new_to_member answer_key t.answers (found_answers rules goal r t) (first_member answer_key (in_order_first answer_key (new_to answer_key t.answers (found_answers rules goal r t)) m))

    -- every key that is found stands afterwards
    all_keyed : {A : Type 0} (key : A → Key) (held found : List A) (x : A) → Memᴰ x found → Keyed key (held ++ in_order key (new_to key held found)) (key x)
    all_keyed key held found x m = by (keyed key held (key x))
      where
        by : Dec (Keyed key held (key x)) → Keyed key (held ++ in_order key (new_to key held found)) (key x)
        by (yes k) = keyed_left key (in_order key (new_to key held found)) k
        by (no n) =
            let (y, f, e) = first_of key m in
            keyed_right key held (y, first_in_order key (new_to_first key held (λ k. n (subst (Keyed key held) e k)) f), e)

    pub round_grown : Grown r t (add_round rules goal r t)
    unfolding add_round
    round_grown = record {
      new_calls = in_order call_key (new_to call_key t.calls (found_calls rules goal r t));
      new_answers = in_order answer_key (new_to answer_key t.answers (found_answers rules goal r t));
      calls_are = refl;
      answers_are = refl;
      calls_rise = in_order_rising call_key (new_to call_key t.calls (found_calls rules goal r t));
      answers_rise = in_order_rising answer_key (new_to answer_key t.answers (found_answers rules goal r t));
      calls_found = λ c m. calls_out rules goal r t c (call_new c m).0;
      answers_found = λ a m. answers_out rules goal r t a (answer_new a m).0;
      calls_fresh = λ c m. (call_new c m).1;
      answers_fresh = λ a m. (answer_new a m).1;
      calls_all = λ d f. all_keyed call_key t.calls (found_calls rules goal r t) (record { action = d.0; state = d.1; round = r }) (calls_in rules goal r t (record { action = d.0; state = d.1; round = r }) f refl);
      answers_all = λ a f. all_keyed answer_key t.answers (found_answers rules goal r t) (again a) (answers_in rules goal r t (again a) (found_again a f) refl);
      least = λ a b m f k. good a b (sym k) (first_least answer_key (answers_ordered rules goal r t few) (found_first a m) (again b) (answers_in rules goal r t (again b) (found_again b f) refl) k);
    }
      where
        again : AnswerRow → AnswerRow
        again a = record { call = a.call; final = a.final; rule = a.rule; evidence = a.evidence; round = r }

        found_again : (a : AnswerRow) → AnswerFound rules goal t a → AnswerFound rules goal t (again a)
        found_again a f = record { call_in = f.call_in; fits = f.fits; along = f.along }

        found_first : (a : AnswerRow) → Memᴰ a (in_order answer_key (new_to answer_key t.answers (found_answers rules goal r t))) → First answer_key a (found_answers rules goal r t)
        found_first a m =
            let (y, f, e) = first_of answer_key (answer_new a m).0 in
            let h : First answer_key a (new_to answer_key t.answers (found_answers rules goal r t)) = in_order_first answer_key (new_to answer_key t.answers (found_answers rules goal r t)) m in
            let n : Keyed answer_key t.answers (answer_key y) → ⊥ = λ k. (answer_new a m).1 (subst (Keyed answer_key t.answers) e k) in
            let z : y ≡ a = first_once answer_key (new_to_first answer_key t.answers n f) h e in
            subst (λ (x : AnswerRow). First answer_key x (found_answers rules goal r t)) z f

        good : (a b : AnswerRow) → answer_key a ≡ answer_key b → (a ≡ again b) ⊎ Prior a (again b) → AsGood a b
        good a b k (inl e) = inl (ap (λ (x : AnswerRow). x.rule) e, ap (λ (x : AnswerRow). x.evidence) e)
        good a b k (inr (inl l)) = absurd (omega (arith, ap (λ (k : Key). k.0) k))
        good a b k (inr (inr (e, l))) = inr l
