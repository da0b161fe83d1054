-- Walks of words over places, one step after another, and their masks. Assumes nothing.
use Prim.Native.Nat.{ℕ, zero, suc, ◌+◌, ◌-◌, ◌*◌, ◌/◌, ◌%◌, ◌^◌, ◌<◌, ◌≤◌, max}
use native.Mathlib.Omega.{arith}
use native.Mathlib.Nat.{zero-add, pow-suc}
use native.Mathlib.Decide.{ℕ_discrete}
use mathlib.Core.Path.{◌≡◌, refl, sym, ap, subst, ◌∙◌}
use mathlib.Core.Bool.{true, false}
use mathlib.Core.List.{List, [], ◌∷◌, ◌++◌, map-append}
use mathlib.Core.Logic.{◌⊎◌, inl, inr, ⊎_elim}
use lib.ListN.{get_or, length, take, get_or-map}
use lib.Bits.{bit_or, or_step, or_shr}
use lib.Count.{count_trailing_zeros, under}
use lib.Seq.{take-suc}
use Rattle.steps.specs.State.{bit}
use Rattle.steps.specs.Step.{Step, query, insert, delete, call, deny, Body}
use Rattle.steps.specs.Words.{step_by, step_of, body_of}
use Rattle.steps.specs.Inner.{is_call}
use Rattle.steps.proofs.EachBelow.{true_not_false}
use Rattle.steps.proofs.StateLaws.{no_bit, bit_zero, bit_suc, set_same, set_other, clear_same, clear_other}
use Rattle.steps.proofs.Tables.{Walk, stands, walks, takes}
use Rattle.steps.proofs.WordLaws.{call_word, word_call}
use Rattle.masks.specs.Masks.{Carried, carries, Held, Mask, WalkTo, GoodWord, Guide}

-- ---- bits

pub one_bit : (k : ℕ) → bit (2 ^ k) k ≡ 1
one_bit k = subst (λ (n : ℕ). bit n k ≡ 1) (zero-add (2 ^ k)) (set_same 0 k (no_bit k))

pub bit_one : (k j : ℕ) → bit (2 ^ k) j ≡ 1 → j ≡ k
bit_one k j e = elim (ℕ_discrete j k) [ yes z ↦ z | no n ↦ absurd (other n) ]
  where
    other : (j ≡ k → ⊥) → ⊥
    other n =
        let f : bit (2 ^ k) j ≡ bit 0 j = subst (λ (n : ℕ). bit n j ≡ bit 0 j) (zero-add (2 ^ k)) (set_other 0 k j n (no_bit k)) in
        omega (arith, sym e ∙ f ∙ no_bit j)

-- bits of `a | b`
pub bit_of_or : (a b j : ℕ) → bit (bit_or a b) j ≡ max (bit a j) (bit b j)
bit_of_or a b j = ap (λ (n : ℕ). n % 2) (or_shr a b j ∙ or_step (a / 2 ^ j) (b / 2 ^ j)) ∙ omega arith

pub or_split : (a b j : ℕ) → bit (bit_or a b) j ≡ 1 → (bit a j ≡ 1) ⊎ (bit b j ≡ 1)
or_split a b j e = elim (ℕ_discrete (bit a j) 1) [ yes z ↦ inl z | no n ↦ inr (omega (arith, e, bit_of_or a b j)) ]

pub or_left : (a b j : ℕ) → bit a j ≡ 1 → bit (bit_or a b) j ≡ 1
or_left a b j e = omega (arith, e, bit_of_or a b j)

pub or_right : (a b j : ℕ) → bit b j ≡ 1 → bit (bit_or a b) j ≡ 1
or_right a b j e = omega (arith, e, bit_of_or a b j)

-- the lowest bit of a number is set
pub lowest_bit : (d q : ℕ) → 0 < q → q < 2 ^ d → bit q (count_trailing_zeros d q) ≡ 1
unfolding count_trailing_zeros
lowest_bit zero q h l = absurd (omega arith)
lowest_bit (suc d) q h l = by (q % 2) refl (λ e. lowest_bit d (q / 2) (omega arith) (omega (arith, pow-suc 2 d)))
  where
    by : (r : ℕ) → q % 2 ≡ r → (q % 2 ≡ 0 → bit (q / 2) (count_trailing_zeros d (q / 2)) ≡ 1) → bit q (under r (count_trailing_zeros d (q / 2))) ≡ 1
    by zero e half = bit_suc q (count_trailing_zeros d (q / 2)) ∙ half e
    by (suc r) e half = bit_zero q ∙ omega arith

pub mask_none : {P : ℕ → Type 0} → ((j : ℕ) → P j → ⊥) → Mask 0 P
mask_none none = record { only = λ j l e. absurd (omega (arith, e, no_bit j)); every = λ j l p. absurd (none j p) }

-- the steps of words, by place
pub step_at_word : (words : List ℕ) (i : ℕ) → get_or (body_of words) i (query 0) ≡ step_of (get_or words i 0)
unfolding step_by
step_at_word words i = get_or-map step_of words i 0

-- ---- one step

-- the word of a step
word_of : Step → ℕ
word_of (query i) = i
word_of (insert i) = 256 + i
word_of (delete i) = 512 + i
word_of (call i) = 768 + i
word_of (deny i) = 1024 + i

word_by : (k i : ℕ) → k < 5 → word_of (step_by k i) ≡ 256 * k + i
unfolding step_by word_of
word_by zero i l = omega arith
word_by (suc zero) i l = omega arith
word_by (suc (suc zero)) i l = omega arith
word_by (suc (suc (suc zero))) i l = omega arith
word_by (suc (suc (suc (suc zero)))) i l = omega arith
word_by (suc (suc (suc (suc (suc k))))) i l = absurd (omega arith)

-- a good word is told by its step
step_same : (w r : ℕ) → GoodWord w → GoodWord r → step_of w ≡ step_of r → w ≡ r
step_same w r g h e =
    let f : word_of (step_of w) ≡ word_of (step_of r) = ap word_of e in
    omega (arith, f, word_by (w / 256) (w % 256) g.0, word_by (r / 256) (r % 256) h.0)

-- a walk of one step
one_walk : {Does : Step → ℕ → ℕ → Type 0} {A : ℕ → ℕ → ℕ → Type 0} {x : Step} {p j : ℕ} → Walk Does A p (x ∷ []) j [] → Does x p j ⊎ ((b : ℕ) × (call b ≡ x) × A b p j)
one_walk (walks h stands) = inl h
one_walk (takes {b = b} h stands) = inr (b, refl, h)

module _ (steps : List ℕ) (runs : ℕ) (table : List ℕ) (guide : Guide steps runs table) (w p : ℕ) (good : GoodWord w) where
  carried_word : {j : ℕ} → Carried (body_of steps) runs (step_of w) p j → (p < runs) × (w ≡ get_or steps p 0) × (j ≡ suc p)
  carried_word h = by refl refl refl h
    where
      by : {x : Step} {i j k : ℕ} → x ≡ step_of w → i ≡ p → k ≡ j → Carried (body_of steps) runs x i k → (p < runs) × (w ≡ get_or steps p 0) × (j ≡ suc p)
      by {j = j} z y v (carries {x = x} {p = i} l e) =
          let f : get_or (body_of steps) p (query 0) ≡ x = subst (λ (i : ℕ). get_or (body_of steps) i (query 0) ≡ x) y e in
          (omega arith, step_same w (get_or steps p 0) good (guide.good p (omega (arith, guide.within))) (sym z ∙ sym f ∙ step_at_word steps p), omega arith)

  pub reach_call : is_call w ≡ true → p < 64 → Mask (get_or table (64 * (w % 256) + p) 0) (WalkTo steps runs table p (w ∷ []))
  reach_call c lp = record { only = to; every = from }
    where
      to : (j : ℕ) → j < 64 → bit (get_or table (64 * (w % 256) + p) 0) j ≡ 1 → WalkTo steps runs table p (w ∷ []) j
      to j lj e =
          subst (λ (x : Step). Walk (Carried (body_of steps) runs) (Held table) p (x ∷ []) j []) (sym (call_word w c)) (takes (good.1, lp, lj, e) stands)

      no : (j : ℕ) → Carried (body_of steps) runs (step_of w) p j → ⊥
      no j h =
          let (l, e, z) = carried_word h in
          true_not_false (sym c ∙ ap is_call e ∙ guide.plain p (omega (arith, guide.within)))

      held : (j b : ℕ) → call b ≡ step_of w → Held table b p j → bit (get_or table (64 * (w % 256) + p) 0) j ≡ 1
      held j b e h = subst (λ (a : ℕ). bit (get_or table (64 * a + p) 0) j ≡ 1) (word_call w b e).1 h.3

      from : (j : ℕ) → j < 64 → WalkTo steps runs table p (w ∷ []) j → bit (get_or table (64 * (w % 256) + p) 0) j ≡ 1
      from j lj walk = ⊎_elim (λ h. absurd (no j h)) (λ (b, e, h). held j b e h) (one_walk walk)

  module _ (c : is_call w ≡ false) where
    elementary_word : {j : ℕ} → WalkTo steps runs table p (w ∷ []) j → (p < runs) × (w ≡ get_or steps p 0) × (j ≡ suc p)
    elementary_word walk =
        ⊎_elim carried_word (λ (b, e, h). absurd (true_not_false (sym (word_call w b e).0 ∙ c))) (one_walk walk)

    pub reach_late : runs ≤ p → Mask 0 (WalkTo steps runs table p (w ∷ []))
    reach_late l = mask_none (λ j walk. omega (arith, (elementary_word walk).0))

    pub reach_unlike : (get_or steps p 0 ≡ w → ⊥) → Mask 0 (WalkTo steps runs table p (w ∷ []))
    reach_unlike n = mask_none (λ j walk. n (sym (elementary_word walk).1))

    pub reach_next : p < runs → get_or steps p 0 ≡ w → Mask (2 ^ (p + 1)) (WalkTo steps runs table p (w ∷ []))
    reach_next l e = record { only = to; every = from }
      where
        n : p + 1 ≡ suc p
        n = omega arith

        to : (j : ℕ) → j < 64 → bit (2 ^ (p + 1)) j ≡ 1 → WalkTo steps runs table p (w ∷ []) j
        to j lj b =
            subst (λ (j : ℕ). WalkTo steps runs table p (w ∷ []) j) (sym n ∙ sym (bit_one (p + 1) j b)) (walks (carries l (step_at_word steps p ∙ ap step_of e)) stands)

        from : (j : ℕ) → j < 64 → WalkTo steps runs table p (w ∷ []) j → bit (2 ^ (p + 1)) j ≡ 1
        from j lj walk = subst (λ (j : ℕ). bit (2 ^ (p + 1)) j ≡ 1) (n ∙ sym (elementary_word walk).2) (one_bit (p + 1))

-- ---- a mask of places, one after another

-- to places from those of the mask
abbrev pub From : ℕ → (ℕ → ℕ → Type 0) → ℕ → Type 0
From mask W j = (p : ℕ) × (p < 64) × (bit mask p ≡ 1) × W p j

-- and of these from all but those that are left
abbrev pub Spread : ℕ → ℕ → (ℕ → ℕ → Type 0) → ℕ → Type 0
Spread mask rest W j = (p : ℕ) × (p < 64) × (bit mask p ≡ 1) × (bit rest p ≡ 0) × W p j

-- the first place of the rest taken away leaves part of the mask
pub spread_rest : (mask rest p : ℕ) → bit rest p ≡ 1 → ((k : ℕ) → bit rest k ≡ 1 → bit mask k ≡ 1) → (k : ℕ) → bit (rest - 2 ^ p) k ≡ 1 → bit mask k ≡ 1
spread_rest mask rest p first sub k e = elim (ℕ_discrete k p) [ yes z ↦ absurd (gone z) | no n ↦ sub k (sym (clear_other rest p k n first) ∙ e) ]
  where
    gone : k ≡ p → ⊥
    gone z = omega (arith, subst (λ (k : ℕ). bit (rest - 2 ^ p) k ≡ 1) z e, clear_same rest p first)

module _ (mask : ℕ) (W : ℕ → ℕ → Type 0) where
  pub spread_none : Mask 0 (Spread mask mask W)
  spread_none = mask_none (λ j (p, l, h, z, w). omega (arith, h, z))

  pub spread_all : {out : ℕ} → Mask out (Spread mask 0 W) → Mask out (From mask W)
  spread_all m = record {
    only = λ j l e. let (p, lp, h, z, w) = m.only j l e in (p, lp, h, w);
    every = λ j l (p, lp, h, w). m.every j l (p, lp, h, no_bit p, w);
  }

  -- the first place of the rest is done
  module _ (rest p : ℕ) (lp : p < 64) (first : bit rest p ≡ 1) where
    pub spread_more : {out more : ℕ} → bit mask p ≡ 1 → Mask out (Spread mask rest W) → Mask more (W p) → Mask (bit_or out more) (Spread mask (rest - 2 ^ p) W)
    spread_more {out} {more} here m one = record {
      only = λ j l e. ⊎_elim (λ e. old j (m.only j l e)) (λ e. (p, lp, here, clear_same rest p first, one.only j l e)) (or_split out more j e);
      every = λ j l (k, lk, h, z, w). new j l k lk h z w (ℕ_discrete k p);
    }
      where
        old : (j : ℕ) → Spread mask rest W j → Spread mask (rest - 2 ^ p) W j
        old j (k, lk, h, z, w) = (k, lk, h, clear_other rest p k (λ e. omega (arith, subst (λ (k : ℕ). bit rest k ≡ 0) e z, first)) first ∙ z, w)

        new : (j : ℕ) → j < 64 → (k : ℕ) → k < 64 → bit mask k ≡ 1 → bit (rest - 2 ^ p) k ≡ 0 → W k j → Dec (k ≡ p) → bit (bit_or out more) j ≡ 1
        new j l k lk h z w (yes e) = or_right out more j (one.every j l (subst (λ (k : ℕ). W k j) e w))
        new j l k lk h z w (no n) = or_left out more j (m.every j l (k, lk, h, sym (clear_other rest p k n first) ∙ z, w))

-- ---- a body, step after step

pub one_more : (words : List ℕ) (k : ℕ) → k < length words → body_of (take (k + 1) words) ≡ body_of (take k words) ++ (step_of (get_or words k 0) ∷ [])
one_more words k lk =
    let e : k + 1 ≡ suc k = omega arith in
    ap (λ (n : ℕ). body_of (take n words)) e ∙ ap body_of (take-suc words k 0 lk) ∙ map-append step_of (take k words) (get_or words k 0 ∷ [])

module _ {Does : Step → ℕ → ℕ → Type 0} {A : ℕ → ℕ → ℕ → Type 0} where
  pub walk_join : {i p j : ℕ} {xs ys : Body} → Walk Does A i xs p [] → Walk Does A p ys j [] → Walk Does A i (xs ++ ys) j []
  walk_join stands v = v
  walk_join (walks h w) v = walks h (walk_join w v)
  walk_join (takes h w) v = takes h (walk_join w v)

  pub walk_split : {i j : ℕ} (xs : Body) {ys : Body} → Walk Does A i (xs ++ ys) j [] → (p : ℕ) × Walk Does A i xs p [] × Walk Does A p ys j []
  walk_split {i} [] w = (i, stands, w)
  walk_split (x ∷ xs) (walks h w) = let (p, a, b) = walk_split xs w in (p, walks h a, b)
  walk_split (x ∷ xs) (takes h w) = let (p, a, b) = walk_split xs w in (p, takes h a, b)

module _ (steps : List ℕ) (runs : ℕ) (table : List ℕ) (guide : Guide steps runs table) where
  -- every place that is come to is below 64
  pub walk_below : {i j : ℕ} {xs left : Body} → Walk (Carried (body_of steps) runs) (Held table) i xs j left → i < 64 → j < 64
  walk_below stands l = l
  walk_below (walks (carries h e) w) l = walk_below w (omega (arith, guide.within, guide.few))
  walk_below (takes h w) l = walk_below w h.2

  pub walk_none : (i : ℕ) → Mask (2 ^ i) (WalkTo steps runs table i [])
  walk_none i = record {
    only = λ j l e. subst (λ (j : ℕ). WalkTo steps runs table i [] j) (sym (bit_one i j e)) stands;
    every = λ j l w. subst (λ (j : ℕ). bit (2 ^ i) j ≡ 1) (stood w) (one_bit i);
  }
    where
      stood : {j : ℕ} → WalkTo steps runs table i [] j → i ≡ j
      stood stands = refl

  -- one step more of a body
  pub walk_more : {i k mask more : ℕ} (words : List ℕ) → i < 64 → k < length words → Mask mask (WalkTo steps runs table i (take k words))
      → Mask more (From mask (λ p. WalkTo steps runs table p (get_or words k 0 ∷ []))) → Mask more (WalkTo steps runs table i (take (k + 1) words))
  walk_more {i} {k} {mask} {more} words li lk m n = record {
    only = λ j l e. let (p, lp, h, w) = n.only j l e in joined j p (m.only p lp h) w;
    every = λ j l w. apart j l (walk_split (body_of (take k words)) (subst (λ (b : Body). Walk (Carried (body_of steps) runs) (Held table) i b j []) (one_more words k lk) w));
  }
    where
      joined : (j p : ℕ) → WalkTo steps runs table i (take k words) p → WalkTo steps runs table p (get_or words k 0 ∷ []) j → WalkTo steps runs table i (take (k + 1) words) j
      joined j p a b = subst (λ (b : Body). Walk (Carried (body_of steps) runs) (Held table) i b j []) (sym (one_more words k lk)) (walk_join a b)

      apart : (j : ℕ) → j < 64 → ((p : ℕ) × WalkTo steps runs table i (take k words) p × WalkTo steps runs table p (get_or words k 0 ∷ []) j) → bit more j ≡ 1
      apart j l (p, a, b) = let lp = walk_below a li in n.every j l (p, lp, m.every p lp a, b)
