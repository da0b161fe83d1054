-- The tables of the code as rows; a round described by record numbers is one described by rows. Assumes nothing.
use Prim.Native.Nat.{ℕ, zero, suc, ◌+◌, ◌-◌, ◌<◌, ◌≤◌}
use native.Mathlib.Omega.{arith}
use mathlib.Core.Path.{◌≡◌, refl, sym, ap, ap₂, subst, ◌∙◌}
use mathlib.Core.Bool.{true}
use mathlib.Core.List.Memᴰ
use mathlib.Core.List.{List, ◌∷◌, ◌++◌, map, Memᴰ}
use lib.ListN.{get_or, length}
use Rattle.steps.specs.State.{State}
use Rattle.steps.specs.Words.{body_of}
use Rattle.records.specs.Records.{Bodies, bodies_of}
use Rattle.records.proofs.Growth.{Tables, HeldCall, Held, Grew, Inside, CallsOnce, AnswersOnce}
use Rattle.tabling.proofs.Graph.{Front, calls, Known}
use Rattle.tabling.proofs.Moves.{move}
use Rattle.tabling.proofs.Closed.{ClosedAt}
use Rattle.canonical.specs.Order.{Key}
use Rattle.canonical.specs.Rows.{CallRow, AnswerRow, Rows, call_key, answer_key, call_at, numbers, no_call}
use Rattle.canonical.proofs.Ordered.{Ordered, none, more}
use Rattle.sorting.specs.Shuffled.{Before}
use Rattle.canonical.proofs.Keys.{Keyed}
use Rattle.canonical.proofs.Onward.{answer_at, no_answer, Shows}
use Rattle.canonical.proofs.Ways.{Along, Comes}
use Rattle.canonical.proofs.Routes.{along_reach, comes_reach}
use Rattle.canonical.proofs.Found.{CallFound, AnswerFound, numbers_out, numbers_in}
use Rattle.canonical.proofs.OneRound.{Grown, AsGood}

-- ---- lists by numbers
module _ {A : Type 0} where
  pub numbers_length : (f : ℕ → A) (i n : ℕ) → length (map f (numbers i n)) ≡ n
  unfolding numbers
  numbers_length f i zero = refl
  numbers_length f i (suc n) = ap suc (numbers_length f (suc i) n)

  pub numbers_at : (f : ℕ → A) (d : A) (i n j : ℕ) → j < n → get_or (map f (numbers i n)) j d ≡ f (i + j)
  unfolding numbers
  numbers_at f d i zero j l = absurd (omega arith)
  numbers_at f d i (suc n) zero l = ap f (omega arith)
  numbers_at f d i (suc n) (suc j) l = numbers_at f d (suc i) n j (omega arith) ∙ ap f (omega arith)

  numbers_split : (f : ℕ → A) (i n k : ℕ) → map f (numbers i (n + k)) ≡ map f (numbers i n) ++ map f (numbers (i + n) k)
  unfolding numbers
  numbers_split f i zero k =
      let p : i ≡ i + 0 = omega arith in
      let q : 0 + k ≡ k = omega arith in
      ap₂ (λ (a b : ℕ). map f (numbers a b)) p q
  numbers_split f i (suc n) k =
      let p : suc n + k ≡ suc (n + k) = omega arith in
      let q : suc i + n ≡ i + suc n = omega arith in
      ap (λ (m : ℕ). map f (numbers i m)) p ∙ ap (λ (l : List A). f i ∷ l) (numbers_split f (suc i) n k ∙ ap (λ (m : ℕ). map f (numbers (suc i) n) ++ map f (numbers m k)) q)

  numbers_same : (f g : ℕ → A) (i n : ℕ) → ((j : ℕ) → i ≤ j → j < i + n → f j ≡ g j) → map f (numbers i n) ≡ map g (numbers i n)
  unfolding numbers
  numbers_same f g i zero same = refl
  numbers_same f g i (suc n) same = ap₂ ◌∷◌ (same i (omega arith) (omega arith)) (numbers_same f g (suc i) n (λ j a b. same j (omega arith) (omega arith)))

  pub numbers_member : (f : ℕ → A) (i n : ℕ) {x : A} → Memᴰ x (map f (numbers i n)) → (j : ℕ) × (i ≤ j) × (j < i + n) × (x ≡ f j)
  numbers_member f i n m = let (j, k, e) = Memᴰ.of_map f (numbers i n) m in let (a, b) = numbers_out i n k in (j, a, b, sym e)

  numbers_ordered : (f : ℕ → A) (R : A → A → Type 0) (i n : ℕ) → ((j k : ℕ) → i ≤ j → j < k → k < i + n → R (f j) (f k)) → Ordered R (map f (numbers i n))
  unfolding numbers
  numbers_ordered f R i zero up = none
  numbers_ordered f R i (suc n) up = more {x = f i}
      (λ y m. (let (j, a, b, e) = numbers_member f (suc i) n m in subst (R (f i)) (sym e) (up i j (omega arith) (omega arith) (omega arith))))
      (numbers_ordered f R (suc i) n (λ j k a b c. up j k (omega arith) b (omega arith)))

module _ (bodies : Bodies) where
  unfoldable pub call_row : Tables → ℕ → CallRow
  call_row b i = record { action = b.calls.action i; state = b.calls.state i; round = b.calls.round i }

  unfoldable pub answer_row : Tables → ℕ → AnswerRow
  answer_row b x = record {
    call = b.answers.call x;
    final = b.answers.final x;
    rule = b.answers.rule x;
    evidence = map (b.answers.evidence x) (numbers 0 (length (bodies.words (b.answers.rule x) (b.calls.action (b.answers.call x)))));
    round = b.answers.round x;
  }

  -- The tables as rows.
  unfoldable pub rows_of : Tables → Rows
  unfolding call_row answer_row
  rows_of b = record { calls = map (call_row b) (numbers 0 b.calls.count); answers = map (answer_row b) (numbers 0 b.answers.count) }

  module _ (b : Tables) where
    pub rows_calls : length (rows_of b).calls ≡ b.calls.count
    unfolding rows_of
    rows_calls = numbers_length (call_row b) 0 b.calls.count

    pub rows_answers : length (rows_of b).answers ≡ b.answers.count
    unfolding rows_of
    rows_answers = numbers_length (answer_row b) 0 b.answers.count

    pub rows_call : (i : ℕ) → i < b.calls.count → call_at (rows_of b).calls i ≡ call_row b i
    unfolding rows_of
    rows_call i l = numbers_at (call_row b) no_call 0 b.calls.count i l ∙ ap (call_row b) (omega arith)

    pub rows_answer : (x : ℕ) → x < b.answers.count → answer_at (rows_of b).answers x ≡ answer_row b x
    unfolding rows_of
    rows_answer x l = numbers_at (answer_row b) no_answer 0 b.answers.count x l ∙ ap (answer_row b) (omega arith)

    -- they show themselves, and so do all that grow from them
    pub rows_shows : {u : Tables} → Grew b u → Inside b b.answers.count → Shows (rows_of b) u b.answers.count
    unfolding call_row answer_row
    rows_shows {u} g inside = record {
      count = sym rows_answers;
      of_call = λ x l. (let i = inside x l in
          λ k. ((ap u.calls.action (g.call_same l) ∙ g.action_same i ∙ sym (ap (λ (c : CallRow). c.action) (at x l))) k, (ap u.calls.state (g.call_same l) ∙ g.state_same i ∙ sym (ap (λ (c : CallRow). c.state) (at x l))) k));
      to_final = λ x l. g.final_same l ∙ sym (ap (λ (a : AnswerRow). a.final) (rows_answer x l));
    }
      where
        at : (x : ℕ) → x < b.answers.count → call_at (rows_of b).calls (answer_at (rows_of b).answers x).call ≡ call_row b (b.answers.call x)
        at x l = ap (λ (a : AnswerRow). call_at (rows_of b).calls a.call) (rows_answer x l) ∙ rows_call (b.answers.call x) (inside x l)

  -- the step words of record x
  abbrev body_at : Tables → ℕ → List ℕ
  body_at b x = bodies.words (b.answers.rule x) (b.calls.action (b.answers.call x))

  -- ---- records that stay as they were
  module _ (u v : Tables) (g : Grew u v) where
    call_row_kept : (i : ℕ) → i < u.calls.count → call_row v i ≡ call_row u i
    unfolding call_row
    call_row_kept i l = λ k. record { action = g.action_same l k; state = g.state_same l k; round = g.call_round l k }

    answer_row_kept : (x : ℕ) → x < u.answers.count → u.answers.call x < u.calls.count → length (body_at u x) ≤ 16 → answer_row v x ≡ answer_row u x
    unfolding answer_row
    answer_row_kept x l i short = λ k. record { call = g.call_same l k; final = g.final_same l k; rule = g.rule_same l k; evidence = same k; round = g.answer_round l k }
      where
        same_body : body_at v x ≡ body_at u x
        same_body = ap₂ bodies.words (g.rule_same l) (ap v.calls.action (g.call_same l) ∙ g.action_same i)

        same : map (v.answers.evidence x) (numbers 0 (length (body_at v x))) ≡ map (u.answers.evidence x) (numbers 0 (length (body_at u x)))
        same = ap (λ (ws : List ℕ). map (v.answers.evidence x) (numbers 0 (length ws))) same_body
            ∙ numbers_same (v.answers.evidence x) (u.answers.evidence x) 0 (length (body_at u x)) (λ q h k. g.evidence_same q l (omega arith))

-- ---- a round by record numbers

module _ (rules goal : List ℕ) where
  abbrev bodies : Bodies
  bodies = bodies_of rules goal

  -- What round r of the code leaves: u stands where b stood. The records of b stay as they were; the new ones rise by their keys, were found over b,
  -- the answers with a justification as good as any; and every record of b is closed under every rule, with the answers of b.
  pub record Left (r : ℕ) (b u : Tables) : Type 0 where
    pub inside : Inside b b.answers.count
    pub short : (x : ℕ) → x < b.answers.count → length (bodies.words (b.answers.rule x) (b.calls.action (b.answers.call x))) ≤ 16
    pub grew : Grew b u
    pub calls_once : CallsOnce u.calls
    pub answers_once : AnswersOnce u.answers
    pub calls_rise : (i j : ℕ) → b.calls.count ≤ i → i < j → j < u.calls.count → Before (u.calls.action i, u.calls.state i) (u.calls.action j, u.calls.state j)
    pub answers_rise : (x y : ℕ) → b.answers.count ≤ x → x < y → y < u.answers.count → Before (u.answers.call x, u.answers.final x) (u.answers.call y, u.answers.final y)
    pub call_found : (i : ℕ) → b.calls.count ≤ i → i < u.calls.count → CallFound rules goal (rows_of bodies b) (u.calls.action i, u.calls.state i) × (u.calls.round i ≡ r)
    pub answer_found : (x : ℕ) → b.answers.count ≤ x → x < u.answers.count → AnswerFound rules goal (rows_of bodies b) (answer_row bodies u x) × (u.answers.round x ≡ r)
    pub best : (x : ℕ) (y : AnswerRow) → b.answers.count ≤ x → x < u.answers.count → AnswerFound rules goal (rows_of bodies b) y → answer_key y ≡ (u.answers.call x, u.answers.final x) → AsGood (answer_row bodies u x) y
    pub closed : (row i : ℕ) → row < b.calls.count → bodies.fits i (b.calls.action row) ≡ true → ClosedAt (bodies.words i (b.calls.action row)) u b.answers.count row

  module _ {r : ℕ} {b u : Tables} (L : Left r b u) where
    abbrev n : ℕ
    n = b.calls.count

    abbrev n' : ℕ
    n' = u.calls.count

    abbrev m : ℕ
    m = b.answers.count

    abbrev m' : ℕ
    m' = u.answers.count

    old_call : (i : ℕ) → i < n → call_row bodies u i ≡ call_row bodies b i
    old_call i l = call_row_kept bodies b u L.grew i l

    old_answer : (x : ℕ) → x < m → answer_row bodies u x ≡ answer_row bodies b x
    old_answer x l = answer_row_kept bodies b u L.grew x l (L.inside x l) (L.short x l)

    calls_are : (rows_of bodies u).calls ≡ (rows_of bodies b).calls ++ map (call_row bodies u) (numbers n (n' - n))
    unfolding rows_of
    calls_are =
        let z : n' ≡ n + (n' - n) = omega (arith, L.grew.calls_more) in
        let w : 0 + n ≡ n = omega arith in
        ap (λ (k : ℕ). map (call_row bodies u) (numbers 0 k)) z ∙ numbers_split (call_row bodies u) 0 n (n' - n)
        ∙ ap₂ (λ (l k : List CallRow). l ++ k) (numbers_same (call_row bodies u) (call_row bodies b) 0 n (λ j h k. old_call j (omega arith))) (ap (λ (k : ℕ). map (call_row bodies u) (numbers k (n' - n))) w)

    answers_are : (rows_of bodies u).answers ≡ (rows_of bodies b).answers ++ map (answer_row bodies u) (numbers m (m' - m))
    unfolding rows_of
    answers_are =
        let z : m' ≡ m + (m' - m) = omega (arith, L.grew.answers_more) in
        let w : 0 + m ≡ m = omega arith in
        ap (λ (k : ℕ). map (answer_row bodies u) (numbers 0 k)) z ∙ numbers_split (answer_row bodies u) 0 m (m' - m)
        ∙ ap₂ (λ (l k : List AnswerRow). l ++ k) (numbers_same (answer_row bodies u) (answer_row bodies b) 0 m (λ j h k. old_answer j (omega arith))) (ap (λ (k : ℕ). map (answer_row bodies u) (numbers k (m' - m))) w)

    -- a key that a record has
    held_keyed : (d : ℕ × State) → HeldCall u d → Keyed call_key (rows_of bodies u).calls d
    unfolding rows_of call_row
    held_keyed d (i, l, c) = (call_row bodies u i, Memᴰ.map (call_row bodies u) (numbers_in i 0 n' (omega arith) (omega arith)), λ k. (c.has_action k, c.has_state k))

    answer_keyed : (row : ℕ) (f : State) → Held u row f → Keyed answer_key (rows_of bodies u).answers (row, f)
    unfolding rows_of answer_row
    answer_keyed row f (x, l, c) = (answer_row bodies u x, Memᴰ.map (answer_row bodies u) (numbers_in x 0 m' (omega arith) (omega arith)), λ k. (c.has_call k, c.has_final k))

    shows : Shows (rows_of bodies b) u m
    shows = rows_shows bodies b L.grew L.inside

    known_calls : (c : ℕ × State) (f : Front State (ℕ × State)) → Known (HeldCall u) f → f ≡ calls c → HeldCall u c
    known_calls c f k e = subst (Known (HeldCall u)) e k

    all_calls : (d : ℕ × State) → CallFound rules goal (rows_of bodies b) d → Keyed call_key (rows_of bodies u).calls d
    unfolding call_row
    all_calls d f =
        let l : f.row < n = omega (arith, f.row_in, rows_calls bodies b) in
        let e = rows_call bodies b f.row l in
        let ws = bodies.words f.rule (b.calls.action f.row) in
        let fits : bodies.fits f.rule (b.calls.action f.row) ≡ true = subst (λ (c : CallRow). bodies.fits f.rule c.action ≡ true) e f.fits in
        let w = subst (λ (c : CallRow). Comes (rows_of bodies b) (body_of ws) c.state d) (e ∙ sym (old_call f.row l)) f.comes in
        let (p, s, reach, h, z) = comes_reach (rows_of bodies b) shows ws 0 ws refl w in
        held_keyed d (known_calls d (move (get_or ws p 0) s) ((L.closed f.row f.rule l fits p s reach).called h) z)

    all_answers : (a : AnswerRow) → AnswerFound rules goal (rows_of bodies b) a → Keyed answer_key (rows_of bodies u).answers (answer_key a)
    unfolding call_row
    all_answers a f =
        let l : a.call < n = omega (arith, f.call_in, rows_calls bodies b) in
        let e = rows_call bodies b a.call l in
        let ws = bodies.words a.rule (b.calls.action a.call) in
        let fits : bodies.fits a.rule (b.calls.action a.call) ≡ true = subst (λ (c : CallRow). bodies.fits a.rule c.action ≡ true) e f.fits in
        let w = subst (λ (c : CallRow). Along (rows_of bodies b) (body_of ws) c.state a.evidence a.final) (e ∙ sym (old_call a.call l)) f.along in
        answer_keyed a.call a.final ((L.closed a.call a.rule l fits (length ws) a.final (along_reach (rows_of bodies b) shows ws 0 ws (omega arith) refl w)).ends refl)

    old_keyed : (d : Key) → Keyed call_key (rows_of bodies b).calls d → (i : ℕ) × (i < n) × (call_key (call_row bodies u i) ≡ d)
    unfolding rows_of
    old_keyed d (c, k, e) = let (i, p, q, f) = numbers_member (call_row bodies b) 0 n k in (i, omega arith, ap call_key (old_call i (omega arith) ∙ sym f) ∙ e)

    old_answer_keyed : (d : Key) → Keyed answer_key (rows_of bodies b).answers d → (x : ℕ) × (x < m) × (answer_key (answer_row bodies u x) ≡ d)
    unfolding rows_of
    old_answer_keyed d (c, k, e) = let (x, p, q, f) = numbers_member (answer_row bodies b) 0 m k in (x, omega arith, ap answer_key (old_answer x (omega arith) ∙ sym f) ∙ e)

    pub left_grown : Grown rules goal r (rows_of bodies b) (rows_of bodies u)
    unfolding call_row answer_row
    left_grown = record {
      new_calls = map (call_row bodies u) (numbers n (n' - n));
      new_answers = map (answer_row bodies u) (numbers m (m' - m));
      calls_are = calls_are;
      answers_are = answers_are;
      calls_rise = numbers_ordered (call_row bodies u) (λ (x y : CallRow). Before (call_key x) (call_key y)) n (n' - n) (λ i j h l k. L.calls_rise i j h l (omega arith));
      answers_rise = numbers_ordered (answer_row bodies u) (λ (x y : AnswerRow). Before (answer_key x) (answer_key y)) m (m' - m) (λ i j h l k. L.answers_rise i j h l (omega arith));
      calls_found = λ c k. (let (i, p, q, e) = numbers_member (call_row bodies u) n (n' - n) k in
          subst (λ (c : CallRow). CallFound rules goal (rows_of bodies b) (call_key c) × (c.round ≡ r)) (sym e) (L.call_found i p (omega arith)));
      answers_found = λ a k. (let (x, p, q, e) = numbers_member (answer_row bodies u) m (m' - m) k in
          subst (λ (a : AnswerRow). AnswerFound rules goal (rows_of bodies b) a × (a.round ≡ r)) (sym e) (L.answer_found x p (omega arith)));
      calls_fresh = λ c k h. (let (j, p, q, e) = numbers_member (call_row bodies u) n (n' - n) k in
          let (i, l, f) = old_keyed (call_key c) h in
          let g = f ∙ ap call_key e in
          L.calls_once i j (u.calls.action j) (u.calls.state j) (omega arith) (omega arith) (record { has_action = ap (λ (d : Key). d.0) g; has_state = ap (λ (d : Key). d.1) g }) (record { has_action = refl; has_state = refl }));
      answers_fresh = λ a k h. (let (y, p, q, e) = numbers_member (answer_row bodies u) m (m' - m) k in
          let (x, l, f) = old_answer_keyed (answer_key a) h in
          let g = f ∙ ap answer_key e in
          L.answers_once x y (u.answers.call y) (u.answers.final y) (omega arith) (omega arith) (record { has_call = ap (λ (d : Key). d.0) g; has_final = ap (λ (d : Key). d.1) g }) (record { has_call = refl; has_final = refl }));
      calls_all = all_calls;
      answers_all = all_answers;
      least = λ a y k f d. (let (x, p, q, e) = numbers_member (answer_row bodies u) m (m' - m) k in
          subst (λ (a : AnswerRow). AsGood a y) (sym e) (L.best x y p (omega arith) f (d ∙ ap answer_key e)));
    }
