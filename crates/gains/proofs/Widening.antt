-- Passes over the rules at a place: what the walk of one rule adds, why a rule that calls no action that has gained needs no walk, and why a
-- place stays settled while earlier places are. Assumes nothing.
use Prim.Native.Nat.{ℕ, zero, suc, ◌+◌, ◌*◌, ◌/◌, ◌%◌, ◌^◌, ◌<◌, ◌≤◌}
use native.Mathlib.Omega.{arith}
use native.Mathlib.Decide.{ℕ_discrete}
use mathlib.Core.Path.{◌≡◌, refl, sym, ap, subst, ◌∙◌}
use mathlib.Core.Bool.{Bool, true, false}
use mathlib.Core.List.Memᴰ
use mathlib.Core.List.{List, [], ◌∷◌, Memᴰ}
use mathlib.Core.Logic.{◌≢◌, ◌⊎◌, inl, inr, ⊎_elim}
use lib.Bits.{bit_or, or_add_and, and_le_r, or_lt}
use lib.Dec.{eqb}
use lib.ListN.{get_or, length, set, length-set}
use lib.Seq.{get_or-set_same, get_or-set_other, set-get_or}
use borrow.Author.Tests.{eqb-true, eqb-false, not-true, not-false}
use Rattle.steps.specs.State.{bit}
use Rattle.steps.specs.Step.{Step, call, Body}
use Rattle.steps.specs.Words.{step_of, body_of, head_of, words_of, book_of}
use Rattle.steps.specs.Widths.{rule_width}
use Rattle.steps.specs.Inner.{is_call, rule_of}
use Rattle.steps.proofs.Deductions.{RuleOf, rule}
use Rattle.steps.proofs.Execution.{Runs, ended, does, uses, Ends}
use Rattle.steps.proofs.Tables.{Walk, stands, walks, takes, walk_runs}
use Rattle.steps.proofs.Lists.{member_at}
use Rattle.steps.proofs.WordLaws.{word_call, rule_member}
use Rattle.masks.specs.Masks.{Carried, carries, Held, WalkTo, Guide, Wide, total, Grown, Walkable, NoCall, word_at, SoundMarks, ClosedRule, Added, Widened}
use Rattle.masks.proofs.Walking.{bit_of_or, or_split, or_left, or_right, walk_below}

-- an execution over places goes up, and no further than the steps can run
pub runs_up : {steps : List Step} {runs : ℕ} {Has : ℕ → Body → Type 0} {i j : ℕ} {body : Body} → Runs (Carried steps runs) Has i body j → i ≤ runs → (i ≤ j) × (j ≤ runs)
runs_up ended l = (omega arith, l)
runs_up (does (carries h e) p) l = let (a, b) = runs_up p (omega arith) in (omega arith, b)
runs_up (uses h i p) l =
    let (a, b) = runs_up i l in
    let (c, d) = runs_up p b in
    (omega arith, d)

-- ---- the sum of a table's words

total_set : (xs : List ℕ) (n v : ℕ) → n < length xs → get_or xs n 0 < v → total xs < total (set xs n v)
unfolding total
total_set [] n v l h = absurd (omega arith)
total_set (x ∷ xs) zero v l h = omega arith
total_set (x ∷ xs) (suc n) v l h = omega (arith, total_set xs n v (omega arith) h)

pub total_most : (xs : List ℕ) → Wide xs → total xs ≤ length xs * 2 ^ 64
unfolding total
total_most [] w = omega arith
total_most (x ∷ xs) w = omega (arith, w 0, total_most xs (λ n. w (suc n)))

or_up : (a b : ℕ) → a ≤ bit_or a b
or_up a b = omega (arith, or_add_and a b, and_le_r a b)

-- ---- growing at a place

pub grown_none : (i : ℕ) (table : List ℕ) → Grown i table table
grown_none i table = record { size = refl; past = λ n l. refl; elsewhere = λ a p l n. refl; wide = λ w. w; up = omega arith }

pub grown_then : {i : ℕ} {before mid after : List ℕ} → Grown i before mid → Grown i mid after → Grown i before after
grown_then g h = record {
  size = h.size ∙ g.size;
  past = λ n l. h.past n l ∙ g.past n l;
  elsewhere = λ a p l n. h.elsewhere a p l n ∙ g.elsewhere a p l n;
  wide = λ w. h.wide (g.wide w);
  up = omega (arith, g.up, h.up);
}

pub guide_kept : {steps : List ℕ} {runs : ℕ} {before after : List ℕ} → Guide steps runs before → length after ≡ length before → Guide steps runs after
guide_kept guide e =
    record { within = guide.within; few = guide.few; plain = guide.plain; good = guide.good; room = omega (arith, guide.room, e) }

-- a walk over another table that holds as much for the calls of the body
walk_calls : {X : Type 0} {Does : Step → X → X → Type 0} {A B : ℕ → X → X → Type 0} {D D' : X} {xs left : Body}
    → ((b : ℕ) (E E' : X) → Memᴰ (call b) xs → A b E E' → B b E E') → Walk Does A D xs D' left → Walk Does B D xs D' left
walk_calls f stands = stands
walk_calls f (walks h w) = walks h (walk_calls (λ b E E' m x. f b E E' (Memᴰ.tail m) x) w)
walk_calls f (takes {D} {D₁} {b = b} x w) = takes (f b D D₁ (Memᴰ.head refl) x) (walk_calls (λ b E E' m x. f b E E' (Memᴰ.tail m) x) w)

-- fewer actions of a mask are called
pub no_call_left : (m n : ℕ) (words : List ℕ) → NoCall (bit_or m n) words → NoCall m words
no_call_left m n words none b h = omega (arith, none b h, bit_of_or m n b)

-- no call of an action of the mask, word by word
pub no_call_words : (m : ℕ) (words : List ℕ) → ((q : ℕ) → q < length words → is_call (get_or words q 0) ≡ true → bit m (get_or words q 0 % 256) ≡ 0) → NoCall m words
no_call_words m words none b h =
    let (w, n, e) = Memᴰ.of_map step_of words h in
    let (q, l, f) = member_at 0 n in
    let (c, g) = word_call (get_or words q 0) b (sym (ap step_of f ∙ e)) in
    ap (bit m) g ∙ none q l c

module _ (rules steps : List ℕ) (runs i : ℕ) (walkable : Walkable rules) (place : i ≤ runs) where
  -- ---- places added to the word of a rule's head
  module _ (r : ℕ) (count : r < length rules / rule_width) {mask : ℕ} {before after : List ℕ} {gained : Bool} (guide : Guide steps runs before)
      (added : Added rules i r mask before after gained) where
    low : (head_of rules r < 64) × (i < 64) × (word_at rules i r < length before)
    low = let h = walkable.heads r count in (h, omega (arith, guide.within, guide.few), omega (arith, guide.within, guide.few, guide.room))

    here : get_or after (word_at rules i r) 0 ≡ bit_or (get_or before (word_at rules i r) 0) mask
    here = ap (λ (l : List ℕ). get_or l (word_at rules i r) 0) added.put ∙ get_or-set_same before (word_at rules i r) _ 0 low.2

    there : (n : ℕ) → n ≢ word_at rules i r → get_or after n 0 ≡ get_or before n 0
    there n ne = ap (λ (l : List ℕ). get_or l n 0) added.put ∙ get_or-set_other before (word_at rules i r) n _ 0 ne

    held_up : (a p j : ℕ) → Held before a p j → Held after a p j
    held_up a p j (la, lp, lj, e) = (la, lp, lj, by (ℕ_discrete (64 * a + p) (word_at rules i r)))
      where
        by : Dec (64 * a + p ≡ word_at rules i r) → bit (get_or after (64 * a + p) 0) j ≡ 1
        by (yes z) =
            subst (λ (n : ℕ). bit (get_or after n 0) j ≡ 1) (sym z)
            (subst (λ (w : ℕ). bit w j ≡ 1) (sym here) (or_left _ mask j (subst (λ (n : ℕ). bit (get_or before n 0) j ≡ 1) z e)))
        by (no n) = subst (λ (w : ℕ). bit w j ≡ 1) (sym (there (64 * a + p) n)) e

    held_new : (a p j : ℕ) → Held after a p j → Held before a p j ⊎ ((a ≡ head_of rules r) × (p ≡ i) × (bit mask j ≡ 1))
    held_new a p j (la, lp, lj, e) = by (ℕ_discrete (64 * a + p) (word_at rules i r))
      where
        by : Dec (64 * a + p ≡ word_at rules i r) → Held before a p j ⊎ ((a ≡ head_of rules r) × (p ≡ i) × (bit mask j ≡ 1))
        by (yes z) =
            let f : bit (bit_or (get_or before (word_at rules i r) 0) mask) j ≡ 1 =
            subst (λ (w : ℕ). bit w j ≡ 1) here (subst (λ (n : ℕ). bit (get_or after n 0) j ≡ 1) z e) in
            ⊎_elim (λ g. inl (la, lp, lj, subst (λ (n : ℕ). bit (get_or before n 0) j ≡ 1) (sym z) g))
            (λ g. inr (omega (arith, z, low.1), omega (arith, z, low.1), g)) (or_split _ mask j f)
        by (no n) = inl (la, lp, lj, subst (λ (w : ℕ). bit w j ≡ 1) (there (64 * a + p) n) e)

    pub added_sound : ((j : ℕ) → j < 64 → bit mask j ≡ 1 → Runs (Carried (body_of steps) runs) (RuleOf (book_of rules)) i (body_of (words_of rules r)) j)
        → SoundMarks rules steps runs before → SoundMarks rules steps runs after
    added_sound right sound = record { each = λ a p j h. ⊎_elim (sound.each a p j) (new a p j h.2) (held_new a p j h) }
      where
        has : RuleOf (book_of rules) (head_of rules r) (body_of (words_of rules r))
        has = rule (rule_of rules r) (rule_member rules r count) refl

        new : (a p j : ℕ) → j < 64 → (a ≡ head_of rules r) × (p ≡ i) × (bit mask j ≡ 1)
            → (p ≤ runs) × Ends (Carried (body_of steps) runs) (RuleOf (book_of rules)) a p j
        new a p j lj (e, f, b) = rw (e, f) (place, (body_of (words_of rules r), has, right j lj b))

    -- a rule that does not call this head is walked as before, and so closed as before
    pub added_back : (m k : ℕ) → bit m (head_of rules r) ≡ 1 → NoCall m (words_of rules k) → (j : ℕ) → WalkTo steps runs after i (words_of rules k) j
        → WalkTo steps runs before i (words_of rules k) j
    added_back m k one none j w =
        walk_calls (λ b p q mem h. ⊎_elim (λ g. g) (λ (e, _, _). absurd (omega (arith, one, none b mem, ap (bit m) e))) (held_new b p q h)) w

    pub added_kept : (m k : ℕ) → bit m (head_of rules r) ≡ 1 → NoCall m (words_of rules k) → ClosedRule rules steps runs i before k
        → ClosedRule rules steps runs i after k
    added_kept m k one none closed j w = held_up _ _ j (closed j (added_back m k one none j w))

    pub added_grown : Grown i before after
    added_grown = record {
      size = ap length added.put ∙ length-set before (word_at rules i r) _;
      past = λ n l. there n (λ z. omega (arith, z, low.0, low.1));
      elsewhere = λ a p l ne. there (64 * a + p) (λ z. ne (omega (arith, z, low.1)));
      wide = λ w n. widened w n (ℕ_discrete n (word_at rules i r));
      up = up (eqb (bit_or (get_or before (word_at rules i r) 0) mask) (get_or before (word_at rules i r) 0)) refl;
    }
      where
        widened : Wide before → (n : ℕ) → Dec (n ≡ word_at rules i r) → get_or after n 0 < 2 ^ 64
        widened w n (yes z) = subst (λ (m : ℕ). m < 2 ^ 64) (sym (ap (λ (n : ℕ). get_or after n 0) z ∙ here)) (or_lt 64 _ mask (w (word_at rules i r)) added.small)
        widened w n (no ne) = subst (λ (m : ℕ). m < 2 ^ 64) (sym (there n ne)) (w n)

        up : (b : Bool) → eqb (bit_or (get_or before (word_at rules i r) 0) mask) (get_or before (word_at rules i r) 0) ≡ b → total before ≤ total after
        up true e =
            let z : after ≡ before = added.put ∙ ap (set before (word_at rules i r)) (eqb-true _ _ e) ∙ set-get_or before (word_at rules i r) 0 in
            omega (arith, ap total z)
        up false e =
            let ne : bit_or (get_or before (word_at rules i r) 0) mask ≢ get_or before (word_at rules i r) 0 = eqb-false _ _ e in
            omega (arith, ap total added.put, total_set before (word_at rules i r) (bit_or (get_or before (word_at rules i r) 0) mask) low.2 (omega (arith, or_up (get_or before (word_at rules i r) 0) mask, ne)))

    pub added_same : gained ≡ false → after ≡ before
    added_same e = added.put ∙ ap (set before (word_at rules i r)) (eqb-true _ _ (not-false _ (sym added.told ∙ e))) ∙ set-get_or before (word_at rules i r) 0

    pub added_more : gained ≡ true → total before < total after
    added_more e =
        let ne : bit_or (get_or before (word_at rules i r) 0) mask ≢ get_or before (word_at rules i r) 0 = eqb-false _ _ (not-true _ (sym added.told ∙ e)) in
        omega (arith, ap total added.put, total_set before (word_at rules i r) (bit_or (get_or before (word_at rules i r) 0) mask) low.2 (omega (arith, or_up (get_or before (word_at rules i r) 0) mask, ne)))

  -- ---- the walk of one rule
  module _ (r : ℕ) (count : r < length rules / rule_width) {before after : List ℕ} {gained : Bool} (guide : Guide steps runs before)
      (wide : Widened rules steps runs i r before after gained) where
    -- where the rule comes to is held then
    pub widened_found : (j : ℕ) → WalkTo steps runs before i (words_of rules r) j → Held after (head_of rules r) i j
    widened_found j w =
        let (lh, li, la) = low r count guide wide.added in
        let lj : j < 64 = walk_below steps runs before guide w li in
        (lh, li, lj, subst (λ (w : ℕ). bit w j ≡ 1) (sym (here r count guide wide.added)) (or_right (get_or before (word_at rules i r) 0) wide.mask j (wide.walked.every j lj w)))

    pub widened_sound : SoundMarks rules steps runs before → SoundMarks rules steps runs after
    widened_sound sound =
        added_sound r count guide wide.added
        (λ j lj b. walk_runs (Carried (body_of steps) runs) (RuleOf (book_of rules)) (λ a p. p ≤ runs) (λ b p q h. (sound.each b p q h).1) (wide.walked.only j lj b)) sound
