-- The list after a class run: the ends of its unrefused starts, one start after another. Assumes nothing.
use Prim.Native.Nat.{ℕ, ◌+◌, ◌≤◌}
use native.Mathlib.Omega.{arith}
use mathlib.Core.Path.{◌≡◌, refl, sym, ap, ap₂, ◌∙◌}
use mathlib.Core.List.Memᴰ
use mathlib.Core.List.{List, [], ◌∷◌, ◌++◌, append_assoc, Memᴰ}
use mathlib.Core.Logic.{◌≢◌, ⊎_elim}
use lib.ListN.{length, take, drop, length-append}
use lib.Seq.{take_at, drop_at, drop-drop}
use Rattle.steps.specs.State.{State}
use Rattle.steps.specs.Run.{End}
use Rattle.steps.specs.Counting.{Rising}
use Rattle.steps.proofs.Counting.{rising_unique}
use Rattle.evaluator.specs.Evaluated.{Asked, Lent, Told, refused_with, run_asked, Tabled}
use Rattle.evaluator.proofs.Determined.{Listing, as_it_was, with_ends, listing, unrefused_tabled, in_rooms}
use Rattle.class.specs.Class.{places, written, handed_on, together, Turns, over, turn}
use Rattle.class.specs.Shown.{InTurn, none, without, with_ends as in-turn-more}
use Rattle.class.proofs.Turns.{places_none, places_ends}

module _ (ask : State → Asked) where
  -- The list begins with the ends of the unrefused starts one after another, and goes on with what it held.
  pub record EndsWritten (starts : List State) (before last : Lent) (rs : List Told) : Type 0 where
    pub ends : List State
    pub in_turn : InTurn ask starts rs ends
    pub many : length ends ≡ written rs
    pub list : last.ends ≡ ends ++ drop (written rs) before.ends

  -- a refused start
  ends_without : {start : State} {later : List State} {before left last : Lent} {r : Told} {rs : List Told} → r.refusal ≢ 0 → left.ends ≡ before.ends
      → EndsWritten later (handed_on (places r) left) last rs → EndsWritten (start ∷ later) before (together (places r) left last) (r ∷ rs)
  unfolding written
  ends_without {before = before} {left = left} {last = last} {r = r} {rs = rs} n s W =
      let p = places_none r n in
      record {
        ends = W.ends;
        in_turn = without n W.in_turn;
        many = W.many ∙ omega (arith, p);
        list = ap (λ (k : ℕ). take k left.ends ++ last.ends) p ∙ W.list
            ∙ ap (λ (xs : List ℕ). W.ends ++ xs) (drop-drop (written rs) (places r) left.ends ∙ ap (drop (places r + written rs)) s);
      }

  -- any other
  ends_with : {start : State} {later : List State} {before left last : Lent} {r : Told} {rs : List Told} → r.refusal ≡ 0 → (t : Tabled (ask start) before left r)
      → Rising t.ends → left.ends ≡ t.ends ++ drop r.ends before.ends → EndsWritten later (handed_on (places r) left) last rs → EndsWritten (start ∷ later) before (together (places r) left last) (r ∷ rs)
  unfolding written
  ends_with {before = before} {left = left} {last = last} {r = r} {rs = rs} z L up is W =
      let c = places_ends r z in
      let p : length L.ends ≡ places r = L.counted ∙ sym c in
      let own : take (places r) left.ends ≡ L.ends = ap (take (places r)) is ∙ take_at L.ends (drop r.ends before.ends) (places r) p in
      let past : drop (places r) left.ends ≡ drop (places r) before.ends =
      ap (drop (places r)) is ∙ drop_at L.ends (drop r.ends before.ends) (places r) p ∙ ap (λ (k : ℕ). drop k before.ends) (sym c) in
      record {
        ends = L.ends ++ W.ends;
        in_turn = in-turn-more z up L.exactly L.counted W.in_turn;
        many = length-append L.ends W.ends ∙ omega (arith, p, W.many);
        list = ap₂ ◌++◌ own (W.list ∙ ap (λ (xs : List ℕ). W.ends ++ drop (written rs) xs) past) ∙ sym (append_assoc L.ends W.ends _)
            ∙ ap (λ (xs : List ℕ). L.ends ++ W.ends ++ xs) (drop-drop (written rs) (places r) before.ends);
      }

  pub ends_written : {starts : List State} {before last : Lent} {rs : List Told} → Turns ask starts before last rs → EndsWritten starts before last rs
  unfolding written
  ends_written over = record { ends = []; in_turn = none; many = refl; list = refl }
  ends_written (turn {start = start} {later = later} {before = before} {left = left} {last = last} {r = r} {rs = rs} E T) = go (listing E) (ends_written T)
    where
      go : Listing (ask start) before left r → EndsWritten later (handed_on (places r) left) last rs → EndsWritten (start ∷ later) before (together (places r) left last) (r ∷ rs)
      go (as_it_was n s) = ends_without n s
      go (with_ends z L l up is) = ends_with z L up is

  -- What is told determines the ends.
  pub in_turn_unique : {starts : List State} {rs : List Told} {xs ys : List State} → InTurn ask starts rs xs → InTurn ask starts rs ys → xs ≡ ys
  in_turn_unique none none = refl
  in_turn_unique (without n I) (without m J) = in_turn_unique I J
  in_turn_unique (without n I) (in-turn-more z up e c J) = absurd (n z)
  in_turn_unique (in-turn-more z up e c I) (without m J) = absurd (m z)
  in_turn_unique (in-turn-more z up e c I) (in-turn-more z' up' e' c' J) =
      ap₂ ◌++◌ (rising_unique up up' (λ D m. (e'.members D).1 ((e.members D).0 m)) (λ D m. (e.members D).1 ((e'.members D).0 m))) (in_turn_unique I J)

  -- what is told determines the list
  pub same_list : {starts : List State} {b₁ b₂ l₁ l₂ : Lent} {rs₁ rs₂ : List Told} → rs₁ ≡ rs₂ → b₁.ends ≡ b₂.ends
      → EndsWritten starts b₁ l₁ rs₁ → EndsWritten starts b₂ l₂ rs₂ → l₁.ends ≡ l₂.ends
  same_list {rs₁ = rs₁} {rs₂ = rs₂} e f W W' =
      W.list ∙ ap₂ ◌++◌ (in_turn_unique (rw e at W.in_turn) W'.in_turn) (ap₂ (λ (n : ℕ) (xs : List ℕ). drop n xs) (ap written e) f) ∙ sym W'.list

-- ---- what an unrefused start lists

module _ {ask : State → Asked} where
  -- No more ends than a table may have answers.
  pub ends_most : {starts : List State} {before last : Lent} {rs : List Told} → Turns ask starts before last rs
      → (r : Told) → Memᴰ r rs → r.refusal ≡ 0 → r.ends ≤ 65536
  ends_most over r m z = absurd (Memᴰ.not-nil m)
  ends_most (turn {start = start} E T) r m z = ⊎_elim (λ e. rw e (omega (arith, (in_rooms (ask start) E).ends, (in_rooms (ask start) E).answers))) (λ k. ends_most T r k z) (Memᴰ.cases_cons m)

  -- Each end is one of an accepted start of the class.
  pub ends_of_starts : {starts : List State} {before last : Lent} {rs : List Told} {ends : List State} → Turns ask starts before last rs → InTurn ask starts rs ends
      → (D : State) → Memᴰ D ends → (start : State) × Memᴰ start starts × (refused_with (ask start) ≡ 0) × End (run_asked (ask start)) D
  ends_of_starts over none D m = absurd (Memᴰ.not-nil m)
  ends_of_starts (turn E T) (without n I) D m = let (start, among, ok, d) = ends_of_starts T I D m in (start, Memᴰ.tail among, ok, d)
  ends_of_starts (turn {start = start} E T) (in-turn-more {own = own} z up e c I) D m =
      ⊎_elim
      (λ k. (start, Memᴰ.head refl, (unrefused_tabled E z).accepted, (e.members D).0 k))
      (λ k. let (begun, among, ok, d) = ends_of_starts T I D k in (begun, Memᴰ.tail among, ok, d))
      (Memᴰ.append_cases own m)
