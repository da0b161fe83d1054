-- Where a step leads over the rows: just where the graph of the search has an edge with this label. Assumes nothing.
use Prim.Native.Nat.{ℕ, zero, suc, ◌+◌, ◌<◌}
use native.Mathlib.Omega.{arith}
use mathlib.Core.Path.{◌≡◌, refl, sym, ap, ap₂, ◌∙◌}
use mathlib.Core.Bool.{Bool, true, false, cond}
use mathlib.Core.List.Memᴰ
use mathlib.Core.List.{List, [], ◌∷◌, ◌++◌, flat_map, Memᴰ}
use mathlib.Core.Logic.{◌⊎◌, inl, inr, ⊎_elim}
use lib.ListN.{get_or, length}
use Rattle.steps.specs.State.{State}
use Rattle.steps.specs.Step.{Step, query, insert, delete, call, deny}
use Rattle.steps.specs.Elementary.{Onward, on, stuck, elementary}
use Rattle.records.proofs.Growth.{Tables}
use Rattle.tabling.proofs.Graph.{Leads}
use Rattle.tabling.proofs.Moves.{Of, call_of, final, front, move_step}
use Rattle.canonical.specs.Order.{same}
use Rattle.canonical.specs.Rows.{AnswerRow, Rows, call_key, call_at}
use Rattle.canonical.specs.Rounds.{called, goes, answers_of, leads_to}
use Rattle.canonical.proofs.Ordered.{Ordered, none, more}
use Rattle.canonical.proofs.Keys.{same_true, same_of}

-- What stands past the last answer record, of no account.
abbrev pub no_answer : AnswerRow
no_answer = record { call = 0; final = 0; rule = 0; evidence = []; round = 0 }

-- Answer record number x.
abbrev pub answer_at : List AnswerRow → ℕ → AnswerRow
answer_at answers x = get_or answers x no_answer

-- The call of answer record x.
abbrev pub row_call : Rows → ℕ → ℕ × State
row_call t x = call_key (call_at t.calls (answer_at t.answers x).call)

-- The tables b show the rows t: as many answers are in use, each of the same call with the same final state.
pub record Shows (t : Rows) (b : Tables) (known : ℕ) : Type 0 where
  pub count : known ≡ length t.answers
  pub of_call : (x : ℕ) → x < known → call_of b x ≡ row_call t x
  pub to_final : (x : ℕ) → x < known → final b x ≡ (answer_at t.answers x).final

module _ (t : Rows) where
  module _ (c : ℕ × State) where
    pub answers_out : {e : ℕ} {u : State} (x : ℕ) (rs : List AnswerRow) → Memᴰ {A = ℕ × State} (e, u) (answers_of t c x rs)
        → (j : ℕ) × (j < length rs) × (e ≡ x + j) × (call_key (call_at t.calls (answer_at rs j).call) ≡ c) × ((answer_at rs j).final ≡ u)
    unfolding answers_of
    answers_out x [] m = absurd (Memᴰ.not-nil m)
    answers_out {e} {u} x (r ∷ rs) m = by (same (call_key (call_at t.calls r.call)) c) refl m (λ k. answers_out (suc x) rs k)
      where
        Found : ℕ → List AnswerRow → Type 0
        Found x rs = (j : ℕ) × (j < length rs) × (e ≡ x + j) × (call_key (call_at t.calls (answer_at rs j).call) ≡ c) × ((answer_at rs j).final ≡ u)

        next : Found (suc x) rs → Found x (r ∷ rs)
        next (j, l, q, k, f) = (suc j, omega arith, omega arith, k, f)

        by : (s : Bool) → same (call_key (call_at t.calls r.call)) c ≡ s → Memᴰ {A = ℕ × State} (e, u) (cond s ((x, r.final) ∷ answers_of t c (suc x) rs) (answers_of t c (suc x) rs))
            → (Memᴰ {A = ℕ × State} (e, u) (answers_of t c (suc x) rs) → Found (suc x) rs) → Found x (r ∷ rs)
        by true q (Memᴰ.head f) k =
            let g : e ≡ x = ap (λ (p : ℕ × State). p.0) f in
            (0, omega arith, omega arith, same_true (call_key (call_at t.calls r.call)) c q, sym (ap (λ (p : ℕ × State). p.1) f))
        by true q (Memᴰ.tail l) k = next (k l)
        by false q l k = next (k l)

    pub answers_in : (x : ℕ) (rs : List AnswerRow) (j : ℕ) → j < length rs → call_key (call_at t.calls (answer_at rs j).call) ≡ c → Memᴰ {A = ℕ × State} (x + j, (answer_at rs j).final) (answers_of t c x rs)
    unfolding answers_of
    answers_in x [] j l k = absurd (omega arith)
    answers_in x (r ∷ rs) zero l k = let z : x + 0 ≡ x = omega arith in rw (same_of (call_key (call_at t.calls r.call)) c k) (Memᴰ.head (ap (λ (n : ℕ). (n, r.final)) z))
    answers_in x (r ∷ rs) (suc j) l k = by (same (call_key (call_at t.calls r.call)) c) (answers_in (suc x) rs j (omega arith) k)
      where
        by : (s : Bool) → Memᴰ {A = ℕ × State} (suc x + j, (answer_at rs j).final) (answers_of t c (suc x) rs) → Memᴰ {A = ℕ × State} (x + suc j, (answer_at rs j).final) (cond s ((x, r.final) ∷ answers_of t c (suc x) rs) (answers_of t c (suc x) rs))
        by s m = by' s (Memᴰ.cast (let z : x + suc j ≡ suc x + j = omega arith in ap (λ (n : ℕ). (n, (answer_at rs j).final)) z) m)
          where
            by' : {p : ℕ × State} (s : Bool) → Memᴰ p (answers_of t c (suc x) rs) → Memᴰ p (cond s ((x, r.final) ∷ answers_of t c (suc x) rs) (answers_of t c (suc x) rs))
            by' true m = Memᴰ.tail m
            by' false m = m

    -- their numbers rise
    pub answers_rise : (x : ℕ) (rs : List AnswerRow) → Ordered (λ (p q : ℕ × State). p.0 < q.0) (answers_of t c x rs)
    unfolding answers_of
    answers_rise x [] = none
    answers_rise x (r ∷ rs) = by (same (call_key (call_at t.calls r.call)) c) (answers_rise (suc x) rs)
      where
        by : (s : Bool) → Ordered (λ (p q : ℕ × State). p.0 < q.0) (answers_of t c (suc x) rs) → Ordered (λ (p q : ℕ × State). p.0 < q.0) (cond s ((x, r.final) ∷ answers_of t c (suc x) rs) (answers_of t c (suc x) rs))
        by true o = more {x = (x, r.final)} (λ p m. let (j, l, q, k, f) = answers_out {e = p.0} {u = p.1} (suc x) rs m in omega arith) o
        by false o = o

  -- ---- the labels at a step rise
  rise_goes : (o : Onward) → Ordered (λ (p q : ℕ × State). p.0 < q.0) (goes o ++ [])
  rise_goes (on u) = more (λ y m. absurd (Memᴰ.not-nil m)) none
  rise_goes stuck = none

  pub onward_rise : (x : Step) (s : State) → Ordered (λ (p q : ℕ × State). p.0 < q.0) (leads_to t x s)
  unfolding leads_to called flat_map elementary
  onward_rise (query p) s = rise_goes (elementary (query p) s)
  onward_rise (insert p) s = rise_goes (elementary (insert p) s)
  onward_rise (delete p) s = rise_goes (elementary (delete p) s)
  onward_rise (deny p) s = rise_goes (elementary (deny p) s)
  onward_rise (call a) s = ordered_nil (answers_rise (a, s) 0 t.answers)
    where
      ordered_nil : {xs : List (ℕ × State)} → Ordered (λ (p q : ℕ × State). p.0 < q.0) xs → Ordered (λ (p q : ℕ × State). p.0 < q.0) (xs ++ [])
      ordered_nil none = none
      ordered_nil (more {xs = xs} low o) = more (λ y m. ⊎_elim (low y) (λ k. absurd (Memᴰ.not-nil k)) (Memᴰ.append_cases xs m)) (ordered_nil o)

  -- ---- the labels are those of the search
  module _ {b : Tables} {known : ℕ} (shows : Shows t b known) where
    goes_out : {e : ℕ} {u : State} (o : Onward) → Memᴰ {A = ℕ × State} (e, u) (goes o ++ []) → Leads (Of b known) (final b) (front o) e u
    goes_out (on v) m = let f = Memᴰ.eq_of_singleton m in (ap (λ (p : ℕ × State). p.0) f, sym (ap (λ (p : ℕ × State). p.1) f))
    goes_out stuck m = absurd (Memᴰ.not-nil m)

    goes_in : (e : ℕ) (u : State) (o : Onward) → Leads (Of b known) (final b) (front o) e u → Memᴰ {A = ℕ × State} (e, u) (goes o ++ [])
    goes_in e u (on v) (z, f) = Memᴰ.head (ap₂ (λ (n : ℕ) (s : State). (n, s)) z (sym f))
    goes_in e u stuck l = absurd l

    pub onward_leads : {e : ℕ} {u : State} (x : Step) (s : State) → Memᴰ {A = ℕ × State} (e, u) (leads_to t x s) → Leads (Of b known) (final b) (move_step x s) e u
    unfolding leads_to called flat_map elementary move_step
    onward_leads (query p) s m = goes_out (elementary (query p) s) m
    onward_leads (insert p) s m = goes_out (elementary (insert p) s) m
    onward_leads (delete p) s m = goes_out (elementary (delete p) s) m
    onward_leads (deny p) s m = goes_out (elementary (deny p) s) m
    onward_leads {e} {u} (call a) s m = by (Memᴰ.append_cases (answers_of t (a, s) 0 t.answers) m)
      where
        by : Memᴰ {A = ℕ × State} (e, u) (answers_of t (a, s) 0 t.answers) ⊎ Memᴰ {A = ℕ × State} (e, u) [] → Of b known (a, s) e × (final b e ≡ u)
        by (inl k) =
            let (j, l, z, c, f) = answers_out (a, s) 0 t.answers k in
            let w : j ≡ e = omega arith in
            let h : e < known = omega (arith, shows.count) in
            let c' : row_call t e ≡ (a, s) = rw w at c in
            let f' : (answer_at t.answers e).final ≡ u = rw w at f in
            let g : call_of b e ≡ (a, s) = shows.of_call e h ∙ c' in
            (record { below = h; action = ap (λ (p : ℕ × State). p.0) g; state = ap (λ (p : ℕ × State). p.1) g }, shows.to_final e h ∙ f')
        by (inr k) = absurd (Memᴰ.not-nil k)

    pub leads_onward : (e : ℕ) (u : State) (x : Step) (s : State) → Leads (Of b known) (final b) (move_step x s) e u → Memᴰ {A = ℕ × State} (e, u) (leads_to t x s)
    unfolding leads_to called flat_map elementary move_step
    leads_onward e u (query p) s l = goes_in e u (elementary (query p) s) l
    leads_onward e u (insert p) s l = goes_in e u (elementary (insert p) s) l
    leads_onward e u (delete p) s l = goes_in e u (elementary (delete p) s) l
    leads_onward e u (deny p) s l = goes_in e u (elementary (deny p) s) l
    leads_onward e u (call a) s (o, f) =
        let g : call_of b e ≡ (a, s) = ap₂ (λ (n : ℕ) (s : State). (n, s)) o.action o.state in
        let h : e < length t.answers = omega (arith, shows.count, o.below) in
        let z : e ≡ 0 + e = omega arith in
        Memᴰ.append_left [] (Memᴰ.cast (ap₂ (λ (n : ℕ) (s : State). (n, s)) z (sym f ∙ shows.to_final e o.below)) (answers_in (a, s) 0 t.answers e h (sym (shows.of_call e o.below) ∙ g)))
