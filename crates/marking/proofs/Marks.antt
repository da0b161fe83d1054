-- Tables of masks: one that is closed under walks and sound says exactly what is to be marked (`marks_exact`), such tables are unique, and the
-- answer to the whole record is a bit of the goal walked at place 0. Assumes nothing.
use Prim.Native.Nat.{ℕ, zero, suc, ◌+◌, ◌-◌, ◌*◌, ◌/◌, ◌%◌, ◌^◌, ◌<◌, ◌≤◌}
use native.Mathlib.Omega.{arith}
use mathlib.Core.Path.{◌≡◌, refl, sym, ap, subst, ◌∙◌}
use mathlib.Core.Bool.{true, false}
use mathlib.Core.List.{List, [], ◌∷◌, ◌++◌, append-nil}
use mathlib.Core.Logic.{◌↔◌, inl}
use lib.ListN.{get_or, length, take, drop, length-append, length-drop, length-map, take-append-drop}
use lib.Seq.{drop-drop, take_at, take-length, take_all}
use Rattle.steps.specs.State.{State, bit}
use Rattle.steps.specs.Step.{Step, query, insert, delete, call, deny, Body, Book}
use Rattle.steps.specs.Words.{step_of, body_of, book_of, run_of}
use Rattle.steps.specs.Inner.{is_call}
use Rattle.steps.specs.Run.{End}
use Rattle.steps.specs.Acceptance.{good_step}
use Rattle.steps.specs.Elementary.{on, elementary}
use Rattle.steps.proofs.AcceptanceLaws.{AcceptedWords, Indexed, good_indexed, rule_indexed}
use Rattle.steps.proofs.Deductions.{RuleOf, rule}
use Rattle.steps.proofs.Execution.{Runs, ended, does, uses, Ends}
use Rattle.steps.proofs.Tables.{Walk, stands, walks, takes, exact, walk_runs}
use Rattle.steps.proofs.StateLaws.{bits_same}
use Rattle.steps.proofs.WordLaws.{Low, not_on}
use Rattle.masks.specs.Masks.{Carried, carries, Held}
use Rattle.masks.proofs.Walking.{step_at_word}
use Rattle.gains.proofs.Widening.{runs_up}
use Rattle.marking.specs.Marking.{steps_of, CarriesOut, left_by, between, Question, Yes, Marked, TableMarked}
use Rattle.marking.specs.Inner.{Ran}
use Rattle.marking.proofs.Spending.{carried, spent}
use Rattle.marking.proofs.Places.{At, state_at, step_at, place_at, place_spends, spends_place}

-- The recorded steps.
abbrev pub recorded : Question → List Step
recorded q = body_of q.words

-- What an unrefused marking goes by: accepted words, a short record of good elementary steps, and how many of them can run.
pub record Taken (q : Question) (runs : ℕ) : Type 0 where
  pub accepted : AcceptedWords q.fluents q.actions q.rules q.goal
  pub few : length q.words ≤ 63
  pub plain : (i : ℕ) → i < length q.words → is_call (get_or q.words i 0) ≡ false
  pub good : (i : ℕ) → i < length q.words → good_step q.fluents q.actions (get_or q.words i 0) ≡ true
  pub ran : Ran (recorded q) q.start runs

low_indexed : (fluents actions : ℕ) (x : Step) → fluents ≤ 64 → Indexed fluents actions x → Low x
low_indexed fluents actions (query p) l h = omega arith
low_indexed fluents actions (insert p) l h = omega arith
low_indexed fluents actions (delete p) l h = omega arith
low_indexed fluents actions (call a) l h = tt
low_indexed fluents actions (deny p) l h = omega arith

pub size_recorded : (q : Question) → length (recorded q) ≡ length q.words
size_recorded q = length-map q.words step_of

all_recorded : (q : Question) → between (recorded q) 0 (length q.words) ≡ recorded q
all_recorded q =
    let n : length q.words - 0 ≡ length (recorded q) = omega (arith, size_recorded q) in
    ap (λ (n : ℕ). take n (recorded q)) n ∙ take-length (recorded q)

module _ (q : Question) (runs : ℕ) (taken : Taken q runs) where
  abbrev steps : List Step
  steps = recorded q

  abbrev book : Book
  book = book_of q.rules

  -- The ends of an action, over places.
  abbrev pub EndsAt : ℕ → ℕ → ℕ → Type 0
  EndsAt = Ends (Carried steps runs) (RuleOf book)

  low : (i : ℕ) → i < length steps → Low (get_or steps i (query 0))
  low i l =
      subst Low (sym (step_at_word q.words i))
      (low_indexed q.fluents q.actions (step_of (get_or q.words i 0)) taken.accepted.few_fluents (good_indexed q.fluents q.actions (get_or q.words i 0) (taken.good i (omega (arith, size_recorded q)))))

  -- A deduction that carries out the steps between two places is an execution from the one to the other.
  pub carries_runs : (i j : ℕ) (D : State) (body : Body) → i ≤ j → j ≤ length steps → i ≤ runs → At steps q.start runs taken.ran i D
      → CarriesOut book D body (between steps i j) ↔ Runs (Carried steps runs) (RuleOf book) i body j
  carries_runs i j D body l m r at = (to, from)
    where
      rest : drop (j - i) (drop i steps) ≡ drop j steps
      rest = let n : i + (j - i) ≡ j = omega arith in drop-drop (j - i) i steps ∙ ap (λ (n : ℕ). drop n steps) n

      whole : take (j - i) (drop i steps) ++ drop j steps ≡ drop i steps
      whole = ap (λ (l : List Step). take (j - i) (drop i steps) ++ l) (sym rest) ∙ take-append-drop (j - i) (drop i steps)

      same : (k : ℕ) → k ≤ length steps → drop j steps ≡ drop k steps → k ≡ j
      same k h e =
          let f : length (drop j steps) ≡ length (drop k steps) = ap length e in
          omega (arith, f, length-drop j steps, length-drop k steps)

      landed : (D' : State) → ((k : ℕ) × At steps q.start runs taken.ran k D' × (drop j steps ≡ drop k steps) × Runs (Carried steps runs) (RuleOf book) i body k) → Runs (Carried steps runs) (RuleOf book) i body j
      landed D' (k, at', e, p) =
          subst (λ (k : ℕ). Runs (Carried steps runs) (RuleOf book) i body k) (same k (omega (arith, (runs_up p r).1, taken.ran.within)) e) p

      to : CarriesOut book D body (between steps i j) → Runs (Carried steps runs) (RuleOf book) i body j
      to (D', d, e) = landed D' (spends_place steps q.start runs taken.ran low (carried d (drop j steps)) i r at (ap (λ (l : List Step). l ++ drop j steps) e ∙ whole))

      size : (l : List Step) → drop i steps ≡ l ++ drop j steps → length l ≡ j - i
      size l e =
          let f : length (drop i steps) ≡ length l + length (drop j steps) = ap length e ∙ length-append l (drop j steps) in
          omega (arith, f, length-drop j steps, length-drop i steps)

      from : Runs (Carried steps runs) (RuleOf book) i body j → CarriesOut book D body (between steps i j)
      from p =
          let (E, at', s) = place_spends steps q.start runs taken.ran p r at in
          let (d, e) = spent s in
          (E, d, sym (ap (λ (l : List Step). take (j - i) l) e ∙ take_at (steps_of d) (drop j steps) (j - i) (size (steps_of d) e)))

  -- no call is a recorded step
  no_call : {a i j : ℕ} → Carried steps runs (call a) i j → ⊥
  unfolding elementary
  no_call {a} (carries {p = p} h e) =
      let (D, at) = state_at steps q.start runs taken.ran p (omega arith) in
      let (E, at', f) = step_at steps q.start runs taken.ran p h at in
      not_on (subst (λ (x : Step). elementary x D ≡ on E) e f)

  pub call_ends : {a i j : ℕ} → Runs (Carried steps runs) (RuleOf book) i (call a ∷ []) j ↔ EndsAt a i j
  call_ends {a} {i} {j} = (to, λ (body, h, p). uses h p ended)
    where
      to : {j : ℕ} → Runs (Carried steps runs) (RuleOf book) i (call a ∷ []) j → EndsAt a i j
      to (does h p) = absurd (no_call h)
      to (uses {body = body} h p ended) = (body, h, p)

  -- A bit that is to be marked is an end of its action, over places.
  pub marked_ends : (a i j : ℕ) → Marked q a i j ↔ ((i ≤ runs) × EndsAt a i j)
  marked_ends a i j = (to, from)
    where
      to : Marked q a i j → (i ≤ runs) × EndsAt a i j
      to m =
          let l : i ≤ runs = place_at steps q.start runs taken.ran i (omega (arith, m.from, m.to, size_recorded q)) m.left in
          (l, call_ends.0 ((carries_runs i j m.state (call a ∷ []) m.from (omega (arith, m.to, size_recorded q)) l m.left).0 m.carried))

      action : (body : Body) → RuleOf book a body → a < q.actions
      action body (rule r m e) = subst (λ (n : ℕ). n < q.actions) e (rule_indexed taken.accepted r m).0

      from : (i ≤ runs) × EndsAt a i j → Marked q a i j
      from (l, (body, h, p)) =
          let (u, v) = runs_up p l in
          let (D, at) = state_at steps q.start runs taken.ran i l in
          let w : j ≤ length steps = omega (arith, taken.ran.within) in
          record {
            action = action body h;
            from = u;
            to = omega (arith, size_recorded q);
            state = D;
            left = at;
            carried = (carries_runs i j D (call a ∷ []) u w l at).1 (call_ends.1 (body, h, p));
          }

  -- A table where one more walk at any place adds nothing, and each bit is the end of an execution.
  pub record Saturated (table : List ℕ) : Type 0 where
    pub sound : (a i j : ℕ) → Held table a i j → (i ≤ runs) × EndsAt a i j
    pub closed : (a i j : ℕ) (body : Body) → i ≤ runs → RuleOf book a body → Walk (Carried steps runs) (Held table) i body j [] → Held table a i j

  module _ {table : List ℕ} (saturated : Saturated table) where
    walk_up : {i j : ℕ} {body left : Body} → Walk (Carried steps runs) (Held table) i body j left → i ≤ runs → j ≤ runs
    walk_up stands l = l
    walk_up (walks (carries h e) w) l = walk_up w (omega arith)
    walk_up (takes {D = i} {D₁ = k} {b = b} h w) l =
        let (m, (body, o, p)) = saturated.sound b i k h in
        walk_up w (runs_up p l).1

    Place : ℕ → ℕ → Type 0
    Place a i = i ≤ runs

    held_ends : (a i j : ℕ) → Held table a i j ↔ ((i ≤ runs) × EndsAt a i j)
    unfolding Place
    held_ends a i j =
        let e = exact (Carried steps runs) (RuleOf book) Place {C = Place} {A = Held table}
        (record { roots = λ a i l. l; reaches = λ a b i k body rest l h w. walk_up w l; ends = λ a i j body l h w. saturated.closed a i j body l h w })
        (record { calls = λ a i l. inl l; answers = λ a i j h. (inl (saturated.sound a i j h).0, (saturated.sound a i j h).1) }) in
        (saturated.sound a i j, λ (l, o). (e.answers a i j).1 (inl l, o))

    -- The bits of a saturated table say exactly what is to be marked.
    pub marks_exact : (a i j : ℕ) → a < 64 → i < 64 → j < 64 → (bit (get_or table (64 * a + i) 0) j ≡ 1) ↔ Marked q a i j
    marks_exact a i j la li lj = (
      λ e. (marked_ends a i j).1 ((held_ends a i j).0 (la, li, lj, e)),
      λ m. ((held_ends a i j).1 ((marked_ends a i j).0 m)).3,
    )

    pub marks_table : (before : List ℕ) → length table ≡ length before → ((n : ℕ) → 4096 ≤ n → get_or table n 0 ≡ get_or before n 0) → TableMarked q before table
    marks_table before size past = record { size = size; bits = marks_exact; past = past }

    runs_walk : {i j : ℕ} {body : Body} → Runs (Carried steps runs) (RuleOf book) i body j → i ≤ runs → Walk (Carried steps runs) (Held table) i body j []
    runs_walk ended l = stands
    runs_walk (does h p) l = walks h (runs_walk p (runs_up {Has = RuleOf book} (does h ended) l).1)
    runs_walk (uses {D = i} {D₁ = k} {a = a} {body = body} h o p) l =
        takes ((held_ends a i k).1 (l, (body, h, o))) (runs_walk p (runs_up o l).1)

    -- The whole record is carried out exactly if the goal, walked from place 0, comes to the record's end.
    pub yes_bit : CarriesOut book q.start (body_of q.goal) steps ↔ Walk (Carried steps runs) (Held table) 0 (body_of q.goal) (length q.words) []
    unfolding left_by
    yes_bit =
        let n : ℕ = length q.words in
        let whole : between steps 0 n ≡ steps = all_recorded q in
        let l : n ≤ length steps = omega (arith, size_recorded q) in
        let (to, from) = carries_runs 0 n q.start (body_of q.goal) (omega arith) l (omega arith) refl in (
          λ c. runs_walk (to (subst (CarriesOut book q.start (body_of q.goal)) (sym whole) c)) (omega arith),
          λ w. subst (CarriesOut book q.start (body_of q.goal)) whole (from (walk_runs (Carried steps runs) (RuleOf book) Place (λ a i j h. (saturated.sound a i j h).1) w)),
        )

-- Where the goal is one call, the answer is a bit of the table.
pub yes_goal : (q : Question) (before after : List ℕ) (a : ℕ) → body_of q.goal ≡ call a ∷ [] → a < q.actions → q.actions ≤ 64 → length q.words < 64 → TableMarked q before after
    → Yes q ↔ (bit (get_or after (64 * a) 0) (length q.words) ≡ 1)
unfolding left_by
yes_goal q before after a e la l64 ln marked = (to, from)
  where
    n : ℕ
    n = length q.words

    whole : between (recorded q) 0 n ≡ recorded q
    whole = all_recorded q

    word : 64 * a + 0 ≡ 64 * a
    word = omega arith

    to : Yes q → bit (get_or after (64 * a) 0) n ≡ 1
    to c = subst (λ (k : ℕ). bit (get_or after k 0) n ≡ 1) word ((marked.bits a 0 n (omega arith) (omega arith) ln).1 (record {
      action = la;
      from = omega arith;
      to = omega arith;
      state = q.start;
      left = refl;
      carried = subst (λ (l : List Step). CarriesOut (book_of q.rules) q.start (call a ∷ []) l) (sym whole) (subst (λ (b : Body). CarriesOut (book_of q.rules) q.start b (recorded q)) e c);
    }))

    from : bit (get_or after (64 * a) 0) n ≡ 1 → Yes q
    from b = back ((marked.bits a 0 n (omega arith) (omega arith) ln).0 (subst (λ (k : ℕ). bit (get_or after k 0) n ≡ 1) (sym word) b))
      where
        on_start : {D : State} → on q.start ≡ on D → q.start ≡ D
        on_start e = cc

        back : Marked q a 0 n → Yes q
        back m =
            let c : CarriesOut (book_of q.rules) q.start (call a ∷ []) (between (recorded q) 0 n) =
            subst (λ (D : State). CarriesOut (book_of q.rules) D (call a ∷ []) (between (recorded q) 0 n)) (sym (on_start m.left)) m.carried in
            subst (λ (b : Body). CarriesOut (book_of q.rules) q.start b (recorded q)) (sym e) (subst (λ (l : List Step). CarriesOut (book_of q.rules) q.start (call a ∷ []) l) whole c)

-- Where the whole record is carried out, the state that the record leaves is an end of the run.
pub evaluated_yes : (q : Question) (runs : ℕ) → Taken q runs → Yes q
    → (D : State) × (left_by (recorded q) q.start ≡ on D) × End (run_of q.rules q.goal q.start) D
unfolding left_by
evaluated_yes q runs taken (D, d, e) = (D, reached (spends_place (recorded q) q.start runs taken.ran (low q runs taken) (carried d []) 0 (omega arith) refl (append-nil (steps_of d) ∙ e)), d)
  where
    reached : (j : ℕ) × At (recorded q) q.start runs taken.ran j D × ([] ≡ drop j (recorded q)) × Runs (Carried (recorded q) runs) (RuleOf (book_of q.rules)) 0 (body_of q.goal) j
        → left_by (recorded q) q.start ≡ on D
    reached (j, at, z, p) =
        let n : 0 ≡ length (recorded q) - j = ap length z ∙ length-drop j (recorded q) in
        subst (λ (l : List Step). left_by l q.start ≡ on D) (take_all j (recorded q) (omega arith)) at

-- ---- uniqueness

-- Two tables that are marked for the same question agree in the first 4,096 words.
pub marked_unique : (q : Question) (before before' after after' : List ℕ) → ((n : ℕ) → get_or after n 0 < 2 ^ 64) → ((n : ℕ) → get_or after' n 0 < 2 ^ 64)
    → TableMarked q before after → TableMarked q before' after' → (n : ℕ) → n < 4096 → get_or after n 0 ≡ get_or after' n 0
marked_unique q before before' after after' small small' m m' n l = bits_same 64 (get_or after n 0) (get_or after' n 0) (small n) (small' n) same
  where
    word : 64 * (n / 64) + n % 64 ≡ n
    word = omega arith

    same : (j : ℕ) → j < 64 → bit (get_or after n 0) j ≡ bit (get_or after' n 0) j
    same j lj =
        let (f, g) = m.bits (n / 64) (n % 64) j (omega arith) (omega arith) lj in
        let (f', g') = m'.bits (n / 64) (n % 64) j (omega arith) (omega arith) lj in
        either (bit (get_or after n 0) j) (bit (get_or after' n 0) j) (omega arith) (omega arith)
        (λ e. subst (λ (k : ℕ). bit (get_or after' k 0) j ≡ 1) word (g' (f (subst (λ (k : ℕ). bit (get_or after k 0) j ≡ 1) (sym word) e))))
        (λ e. subst (λ (k : ℕ). bit (get_or after k 0) j ≡ 1) word (g (f' (subst (λ (k : ℕ). bit (get_or after' k 0) j ≡ 1) (sym word) e))))
      where
        either : (s t : ℕ) → s < 2 → t < 2 → (s ≡ 1 → t ≡ 1) → (t ≡ 1 → s ≡ 1) → s ≡ t
        either zero zero hs ht f g = refl
        either zero (suc t) hs ht f g = let z : zero ≡ 1 = g (omega arith) in omega arith
        either (suc s) t hs ht f g = let z : t ≡ 1 = f (omega arith) in omega arith
