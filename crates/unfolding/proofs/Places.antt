-- Offsets: a place in the path for what each record used adds. They are laid from the asked record down. Assumes nothing.
use Prim.Native.Nat.{ℕ, zero, suc, ◌+◌, ◌<◌, ◌≤◌, ◌^◌}
use native.Mathlib.Omega.{arith}
use mathlib.Core.Path.{◌≡◌, refl, sym, ap, subst, ◌∙◌}
use mathlib.Core.Bool.{Bool, true, false, cond}
use mathlib.Core.List.{List, ◌∷◌, ◌++◌}
use lib.ListN.{length, get_or, set, length-set, length-append, replicate}
use lib.Seq.{get_or-set_same, get_or-set_other}
use lib.Dec.{eqb}
use borrow.Author.Tests.{eqb-true, eqb-false}
use Rattle.steps.specs.State.{State}
use Rattle.steps.proofs.EachBelow.{true_not_false}
use Rattle.steps.specs.Words.{step_of}
use Rattle.steps.specs.Inner.{is_call}
use Rattle.unfolding.specs.Path.{adds}
use Rattle.unfolding.proofs.Walk.{Lent, Checked, LeadsTo, leads_below, adds_call, words_at, step_at, evidence_at, added_by, start_at, Stands, left, stands_next, left_first, left_next, left_end}
use Rattle.unfolding.proofs.Sizes.{Sized, Turned, turned_exact}
use Rattle.unfolding.proofs.Lies.{Lies, lies_left, lies_right}

-- Where a record has a place, what it adds stands there. (0 is no place: the path begins with the call's state.)
abbrev pub Placed : (ℕ → List State) → List ℕ → List ℕ → Type 0
Placed f offsets wanted = (x : ℕ) → 0 < get_or offsets x 0 → Lies (f x) (get_or offsets x 0) wanted

-- no record has a place at first
pub no_place : (n x : ℕ) → ◌≡◌ {A = ℕ} (get_or (replicate n 0) x 0) 0
no_place zero x = refl
no_place (suc n) zero = refl
no_place (suc n) (suc x) = no_place n x

module _ (it : Lent) where
  -- The records used by the first q steps of record n have places.
  abbrev pub Linked : ℕ → ℕ → List ℕ → Type 0
  Linked n q offsets = (j : ℕ) → j < q → is_call (step_at it n j) ≡ true → 0 < get_or offsets (evidence_at it n j) 0

  -- What the steps of a record need for their sizes to be exact: room for all that it adds.
  pub record Roomy (sizes : List ℕ) (n p : ℕ) : Type 0 where
    pub cap : ℕ
    pub small : cap < 2 ^ 61
    pub sized : Sized (added_by it) sizes n cap
    pub room : p + length (added_by it n) ≤ cap
    pub after_first : 0 < p

  -- The walk of record n, whose states begin at p, stands at place q in state s, and the next state is at `at`.
  pub record Along (n p q : ℕ) (s : State) (at : ℕ) : Type 0 where
    pub stands : Stands it n q s
    pub lies : (wanted : List ℕ) → Lies (added_by it n) p wanted → Lies (left it n q s) at wanted
    pub span : at + length (left it n q s) ≡ p + length (added_by it n)
    pub past : p ≤ at

  pub along_first : {n p : ℕ} → Stands it n 0 (start_at it n) → Along n p 0 (start_at it n) p
  along_first {n} {p} h = record {
    stands = h;
    lies = λ w l. subst (λ (a : List State). Lies a p w) (left_first it n) l;
    span = ap (λ (a : List State). p + length a) (sym (left_first it n));
    past = omega arith;
  }

  module _ (n p q : ℕ) (s : State) (at : ℕ) (a : Along n p q s at) (l : q < length (words_at it n)) where
    -- what this step adds
    abbrev pub piece : State → List State
    piece t = adds (added_by it) (step_of (step_at it n q)) t (evidence_at it n q)

    module _ (t : State) (to : LeadsTo it.plain it.calls it.answers n (step_at it n q) s (evidence_at it n q) t) where
      split : left it n q s ≡ piece t ++ left it n (q + 1) t
      split = left_next it n q s l t to

      lengths : length (left it n q s) ≡ length (piece t) + length (left it n (q + 1) t)
      lengths = ap length split ∙ length-append (piece t) (left it n (q + 1) t)

      pub piece_lies : (wanted : List ℕ) → Lies (added_by it n) p wanted → Lies (piece t) at wanted
      piece_lies w h = lies_left (piece t) (left it n (q + 1) t) (subst (λ (a : List State). Lies a at w) split (a.lies w h))

      pub piece_fits : at + length (piece t) ≤ p + length (added_by it n)
      piece_fits = omega (arith, a.span, lengths)

      pub along_next : (size : ℕ) → size ≡ length (piece t) → Along n p (q + 1) t (at + size)
      along_next size e = record {
        stands = stands_next it n q s l t a.stands to;
        lies = λ w h. rw e (lies_right (piece t) (left it n (q + 1) t) (subst (λ (a : List State). Lies a at w) split (a.lies w h)));
        span = omega (arith, a.span, lengths);
        past = omega (arith, a.past);
      }

    -- its size is exact
    pub exact : {sizes : List ℕ} {t : State} {size : ℕ} → Roomy sizes n p → Turned it.plain it.calls it.answers sizes n (step_at it n q) s (evidence_at it n q) t size → size ≡ length (piece t)
    exact {sizes} {t} r u =
        turned_exact (added_by it) r.sized u (omega (arith, piece_fits t u.to, r.room, a.past)) (omega (arith, r.room, r.after_first))

    -- a call's is that of the record it uses
    pub exact_call : {sizes : List ℕ} {t : State} {size : ℕ} → Roomy sizes n p → Turned it.plain it.calls it.answers sizes n (step_at it n q) s (evidence_at it n q) t size
        → is_call (step_at it n q) ≡ true → size ≡ length (added_by it (evidence_at it n q))
    exact_call {t = t} r u k = exact r u ∙ ap length (adds_call (added_by it) (step_at it n q) t (evidence_at it n q) k)

    -- there is room for it
    pub room_left : {sizes : List ℕ} {t : State} {size : ℕ} → Roomy sizes n p → Turned it.plain it.calls it.answers sizes n (step_at it n q) s (evidence_at it n q) t size
        → at + size ≤ p + length (added_by it n)
    room_left {t = t} r u = omega (arith, exact r u, piece_fits t u.to)

  pub along_end : (n p q : ℕ) (s : State) (at : ℕ) → Along n p q s at → length (words_at it n) ≤ q → at ≡ p + length (added_by it n)
  along_end n p q s at a l =
      let e : length (left it n q s) ≡ 0 = ap length (left_end it n q s l) in
      omega (arith, a.span)

  -- ---- placing what one record uses

  -- What is asked for placing what record n uses.
  pub record Placing (sizes offsets : List ℕ) (n : ℕ) : Type 0 where
    pub checked : Checked it (n + 1)
    pub sizes_long : n ≤ length sizes
    pub offsets_long : n < length offsets
    pub roomy : Roomy sizes n (get_or offsets n 0)

  -- The offsets after the first q steps of record n, which were old before.
  pub record Laying (n q : ℕ) (old offsets : List ℕ) : Type 0 where
    pub long : length offsets ≡ length old
    pub high : (x : ℕ) → n ≤ x → get_or offsets x 0 ≡ get_or old x 0
    pub grows : (x : ℕ) → 0 < get_or old x 0 → 0 < get_or offsets x 0
    pub placed : (wanted : List ℕ) → Lies (added_by it n) (get_or old n 0) wanted → Placed (added_by it) old wanted
        → Placed (added_by it) offsets wanted
    pub linked : Linked n q offsets

  pub laying_none : (n : ℕ) (old : List ℕ) → Laying n 0 old old
  laying_none n old = record { long = refl; high = λ x h. refl; grows = λ x h. h; placed = λ w h p. p; linked = λ j h k. absurd (omega arith) }

  module _ (n q : ℕ) (s : State) (at : ℕ) (old offsets : List ℕ) (t : State) (y : Laying n q old offsets) (room : n ≤ length old)
      (a : Along n (get_or old n 0) q s at) (positive : 0 < get_or old n 0) (l : q < length (words_at it n))
      (to : LeadsTo it.plain it.calls it.answers n (step_at it n q) s (evidence_at it n q) t) where
    abbrev e : ℕ
    e = evidence_at it n q

    -- a call: its record has a place here
    laying_call : is_call (step_at it n q) ≡ true → Laying n (q + 1) old (set offsets e at)
    laying_call k = record { long = simp length-set y.long; high = λ x h. get_or-set_other offsets e x at 0 (λ z. omega (arith, smaller)) ∙ y.high x h; grows = grow; placed = place; linked = link }
      where
        smaller : e < n
        smaller = leads_below k to

        here : get_or (set offsets e at) e 0 ≡ at
        here = get_or-set_same offsets e at 0 (omega (arith, smaller, y.long))

        later : (x : ℕ) → 0 < get_or offsets x 0 → 0 < get_or (set offsets e at) x 0
        later x h = by (eqb x e) refl
          where
            by : (b : Bool) → eqb x e ≡ b → 0 < get_or (set offsets e at) x 0
            by true z = rw (eqb-true x e z, here) (omega (arith, a.past))
            by false z = rw (get_or-set_other offsets e x at 0 (eqb-false x e z)) h

        grow : (x : ℕ) → 0 < get_or old x 0 → 0 < get_or (set offsets e at) x 0
        grow x h = later x (y.grows x h)

        place : (wanted : List ℕ) → Lies (added_by it n) (get_or old n 0) wanted → Placed (added_by it) old wanted
            → Placed (added_by it) (set offsets e at) wanted
        place w h p x g = by (eqb x e) refl
          where
            by : (b : Bool) → eqb x e ≡ b → Lies (added_by it x) (get_or (set offsets e at) x 0) w
            by true z =
                rw (eqb-true x e z, here)
                (subst (λ (a : List State). Lies a at w) (adds_call (added_by it) (step_at it n q) t e k) (piece_lies n (get_or old n 0) q s at a l t to w h))
            by false z =
                let o = get_or-set_other offsets e x at 0 (eqb-false x e z) in
                rw o (y.placed w h p x (rw o at g))

        link : Linked n (q + 1) (set offsets e at)
        link j h c = by (eqb j q) refl
          where
            by : (b : Bool) → eqb j q ≡ b → 0 < get_or (set offsets e at) (evidence_at it n j) 0
            by true z = rw (eqb-true j q z, here) (omega (arith, a.past))
            by false z = let d : (j ≡ q → ⊥) = eqb-false j q z in later _ (y.linked j (omega arith) c)

    -- any other step: nothing changes
    laying_other : is_call (step_at it n q) ≡ false → Laying n (q + 1) old offsets
    laying_other k = record { long = y.long; high = y.high; grows = y.grows; placed = y.placed; linked = link }
      where
        link : Linked n (q + 1) offsets
        link j h c = by (eqb j q) refl
          where
            by : (b : Bool) → eqb j q ≡ b → 0 < get_or offsets (evidence_at it n j) 0
            by true z = let z' : j ≡ q = eqb-true j q z in let c' : is_call (step_at it n q) ≡ true = rw z' at c in absurd (true_not_false (sym c' ∙ k))
            by false z = let d : (j ≡ q → ⊥) = eqb-false j q z in y.linked j (omega arith) c

    pub laying_more : Laying n (q + 1) old (cond (is_call (step_at it n q)) (set offsets e at) offsets)
    laying_more = by (is_call (step_at it n q)) refl
      where
        by : (b : Bool) → is_call (step_at it n q) ≡ b → Laying n (q + 1) old (cond b (set offsets e at) offsets)
        by true z = laying_call z
        by false z = laying_other z

  -- ---- all records, from the asked one down

  -- Every record from n on up to the asked one that has a place has its uses placed.
  pub record Laid (asked n : ℕ) (wanted offsets : List ℕ) : Type 0 where
    pub root : get_or offsets asked 0 ≡ 1
    pub placed : Placed (added_by it) offsets wanted
    pub linked : (x : ℕ) → n ≤ x → x ≤ asked → 0 < get_or offsets x 0 → Linked x (length (words_at it x)) offsets

  -- What is asked for placing all that the asked record uses: no record has a place yet, and there is room.
  pub record Placeable (sizes offsets : List ℕ) (asked : ℕ) : Type 0 where
    pub checked : Checked it (asked + 1)
    pub sizes_long : asked < length sizes
    pub offsets_long : asked < length offsets
    pub empty : (x : ℕ) → get_or offsets x 0 ≡ 0
    pub cap : ℕ
    pub small : cap < 2 ^ 61
    pub sized : Sized (added_by it) sizes (asked + 1) cap
    pub room : length (added_by it asked) < cap

  pub laid_first : (asked : ℕ) (offsets : List ℕ) → asked < length offsets → ((x : ℕ) → get_or offsets x 0 ≡ 0)
      → Laid asked (asked + 1) (start_at it asked ∷ added_by it asked) (set offsets asked 1)
  laid_first asked offsets l zeros = record { root = get_or-set_same offsets asked 1 0 l; placed = place; linked = λ x h k. absurd (omega arith) }
    where
      path : List State
      path = start_at it asked ∷ added_by it asked

      first : Lies (added_by it asked) 1 path
      first = record { bound = omega arith; same = λ i h. (let e : 1 + i ≡ suc i = omega arith in rw e refl) }

      place : Placed (added_by it) (set offsets asked 1) path
      place x g = by (eqb x asked) refl
        where
          by : (b : Bool) → eqb x asked ≡ b → Lies (added_by it x) (get_or (set offsets asked 1) x 0) path
          by true z = rw (eqb-true x asked z, get_or-set_same offsets asked 1 0 l) first
          by false z = let o = get_or-set_other offsets asked x 1 0 (eqb-false x asked z) in absurd (omega (arith, zeros x))

  -- a record without a place uses none
  pub laid_skip : {asked n : ℕ} {wanted offsets : List ℕ} → Laid asked (n + 1) wanted offsets → get_or offsets n 0 ≡ 0 → Laid asked n wanted offsets
  laid_skip {asked} {n} {wanted} {offsets} d e = record { root = d.root; placed = d.placed; linked = link }
    where
      link : (x : ℕ) → n ≤ x → x ≤ asked → 0 < get_or offsets x 0 → Linked x (length (words_at it x)) offsets
      link x h k g = by (eqb x n) refl
        where
          by : (b : Bool) → eqb x n ≡ b → Linked x (length (words_at it x)) offsets
          by true z = let z' : x ≡ n = eqb-true x n z in let g' : 0 < get_or offsets n 0 = rw z' at g in absurd (omega arith)
          by false z = let f : (x ≡ n → ⊥) = eqb-false x n z in d.linked x (omega arith) k g

  pub laid_more : {asked n : ℕ} {wanted old offsets : List ℕ} → n ≤ asked → Laid asked (n + 1) wanted old → 0 < get_or old n 0
      → Laying n (length (words_at it n)) old offsets → Laid asked n wanted offsets
  laid_more {asked} {n} {wanted} {old} {offsets} le d pos y = record { root = y.high asked le ∙ d.root; placed = y.placed wanted (d.placed n pos) d.placed; linked = link }
    where
      link : (x : ℕ) → n ≤ x → x ≤ asked → 0 < get_or offsets x 0 → Linked x (length (words_at it x)) offsets
      link x h k g = by (eqb x n) refl
        where
          by : (b : Bool) → eqb x n ≡ b → Linked x (length (words_at it x)) offsets
          by true z = rw (eqb-true x n z) y.linked
          by false z =
              let f : (x ≡ n → ⊥) = eqb-false x n z in
              λ j m c. y.grows _ (d.linked x (omega arith) k (rw (y.high x h) at g) j m c)
