-- Writing the path: each record that has a place is written there, from the first record up. Assumes nothing.
use Rattle.std.specs.Prelude.{Option, None, Some}
use Prim.Native.Nat.{ℕ, suc, ◌+◌, ◌-◌, ◌<◌, ◌≤◌, ◌^◌}
use native.Mathlib.Omega.{arith}
use native.Mathlib.Nat.{add-zero}
use mathlib.Core.Path.{◌≡◌, refl, sym, ap, subst, ◌∙◌}
use mathlib.Core.Bool.{Bool, true, false, cond}
use mathlib.Core.List.{List, ◌∷◌, ◌++◌}
use lib.ListN.{length, get_or, drop, set, length-set, length-append, length-drop}
use lib.Seq.{get_or-set_same, get_or-set_other, get_or-append-add, get_or-drop, ext_get_or}
use lib.Dec.{eqb, ltb}
use borrow.Author.Tests.{eqb-true, eqb-false, ltb-true, ltb-false, le-ltb}
use Rattle.steps.specs.State.{State}
use Rattle.steps.specs.Words.{step_of}
use Rattle.steps.specs.Inner.{is_call}
use Rattle.unfolding.specs.Path.{shown, adds}
use Rattle.unfolding.proofs.Walk.{Lent, Checked, checked_less, LeadsTo, leads_below, adds_call, adds_shown, shown_small, shown_new, words_at, step_at, evidence_at, added_by, start_at}
use Rattle.unfolding.proofs.Sizes.{Sized, sized_less}
use Rattle.unfolding.proofs.Lies.{Lies, lies_longer, Agree, agree_keep, Twice, Copied}
use Rattle.unfolding.proofs.Places.{Placed, Linked, Roomy, Along, piece, piece_lies, Laid}

-- ---- one step

-- What is wanted of one step: a call's states stand already elsewhere, and any other step adds at most its new state.
pub record Source (wanted l : List ℕ) (w from at size : ℕ) (t : State) : Type 0 where
  pub copied : is_call w ≡ true → Twice wanted l from at size
  pub stored : is_call w ≡ false → 0 < size → (size ≡ 1) × (t ≡ get_or wanted at 0)

-- m is l with one step's states written.
pub record Stepped (l m : List ℕ) (w from at size : ℕ) (t : State) : Type 0 where
  pub long : length m ≡ length l
  pub keeps : (wanted : List ℕ) → Source wanted l w from at size t → (x : ℕ) → Agree wanted l x → Agree wanted m x
  pub fills : (wanted : List ℕ) → Source wanted l w from at size t → (i : ℕ) → i < size → Agree wanted m (at + i)

pub stepped_copy : {l m : List ℕ} {w from at size : ℕ} {t : State} → is_call w ≡ true → Copied l m from at size size → Stepped l m w from at size t
stepped_copy k c = record { long = c.long; keeps = λ d s. c.keeps d (s.copied k); fills = λ d s. c.fills d (s.copied k) }

pub stepped_none : {l : List ℕ} {w from at size : ℕ} {t : State} → size ≡ 0 → Stepped l l w from at size t
stepped_none e = record { long = refl; keeps = λ d s x a. a; fills = λ d s i h. absurd (omega arith) }

pub stepped_store : {l : List ℕ} {w from at size : ℕ} {t : State} → is_call w ≡ false → 0 < size → at < length l → Stepped l (set l at t) w from at size t
stepped_store {l} {w} {from} {at} {size} {t} k p r = record {
  long = length-set l at t;
  keeps = λ d s. agree_keep d l at t r (s.stored k p).1;
  fills = λ d s i h. (let z : i ≡ 0 = omega (arith, (s.stored k p).0) in rw (z, add-zero) (get_or-set_same l at t 0 r ∙ (s.stored k p).1));
}

module _ (it : Lent) where
  -- The buffer holds what the records below n add, at their places.
  abbrev pub Done : List ℕ → ℕ → List ℕ → List ℕ → Type 0
  Done offsets n wanted l = (x : ℕ) → x < n → 0 < get_or offsets x 0 → (i : ℕ) → i < length (added_by it x) → Agree wanted l (get_or offsets x 0 + i)

  -- ---- one record

  -- What is asked for writing record n.
  pub record Ready (sizes offsets : List ℕ) (n : ℕ) (l : List ℕ) : Type 0 where
    pub checked : Checked it (n + 1)
    pub sizes_long : n ≤ length sizes
    pub offsets_long : n < length offsets
    pub roomy : Roomy it sizes n (get_or offsets n 0)
    pub inside : (x : ℕ) → 0 < get_or offsets x 0 → get_or offsets x 0 + length (added_by it x) ≤ length l
    pub linked : Linked it n (length (words_at it n)) offsets

  -- m is l with the states of record n written up to place `at`.
  pub record Wrote (offsets : List ℕ) (n at : ℕ) (l m : List ℕ) : Type 0 where
    pub long : length m ≡ length l
    pub keeps : (wanted : List ℕ) → Placed (added_by it) offsets wanted → Done offsets n wanted l → (x : ℕ) → Agree wanted l x → Agree wanted m x
    pub fills : (wanted : List ℕ) → Placed (added_by it) offsets wanted → Done offsets n wanted l → (x : ℕ) → get_or offsets n 0 ≤ x → x < at → Agree wanted m x

  pub wrote_none : (offsets : List ℕ) (n : ℕ) (l : List ℕ) → Wrote offsets n (get_or offsets n 0) l l
  wrote_none offsets n l = record { long = refl; keeps = λ d p o x a. a; fills = λ d p o x h k. absurd (omega arith) }

  module _ (offsets : List ℕ) (n q : ℕ) (s : State) (at : ℕ) (l m k : List ℕ) (t : State) (size : ℕ)
      (y : Wrote offsets n at l m) (positive : 0 < get_or offsets n 0) (a : Along it n (get_or offsets n 0) q s at)
      (linked : Linked it n (length (words_at it n)) offsets)
      (r : q < length (words_at it n))
      (to : LeadsTo it.plain it.calls it.answers n (step_at it n q) s (evidence_at it n q) t)
      (exact : size ≡ length (piece it n (get_or offsets n 0) q s at a r t)) where
    abbrev w : ℕ
    w = step_at it n q

    abbrev e : ℕ
    e = evidence_at it n q

    here : (wanted : List ℕ) → Placed (added_by it) offsets wanted → Lies (adds (added_by it) (step_of w) t e) at wanted
    here d p = piece_lies it n (get_or offsets n 0) q s at a r t to d (p n positive)

    source : (wanted : List ℕ) → Placed (added_by it) offsets wanted → Done offsets n wanted l → Source wanted m w (get_or offsets e 0) at size t
    source d p o = record { copied = copy; stored = store }
      where
        copy : is_call w ≡ true → Twice d m (get_or offsets e 0) at size
        copy c =
            let f : adds (added_by it) (step_of w) t e ≡ added_by it e = adds_call (added_by it) w t e c in
            let z : size ≡ length (added_by it e) = exact ∙ ap length f in
            let pos : 0 < get_or offsets e 0 = linked q r c in
            let at_here : Lies (added_by it e) at d = subst (λ (a : List State). Lies a at d) f (here d p) in
            record {
              same = λ i h. at_here.same i (omega arith) ∙ sym ((p e pos).same i (omega arith));
              have = λ i h. y.keeps d p o _ (o e (leads_below c to) pos i (omega arith));
            }

        store : is_call w ≡ false → 0 < size → (size ≡ 1) × (t ≡ get_or d at 0)
        store c g =
            let f : adds (added_by it) (step_of w) t e ≡ shown (step_of w) t = adds_shown (added_by it) w t e c in
            let z : size ≡ length (shown (step_of w) t) = exact ∙ ap length f in
            let at_here : Lies (shown (step_of w) t) at d = subst (λ (a : List State). Lies a at d) f (here d p) in
            let first : get_or d (at + 0) 0 ≡ t = at_here.same 0 (omega arith) ∙ shown_new (step_of w) t (omega arith) in
            (omega (arith, shown_small (step_of w) t), sym (rw add-zero at first))

    pub wrote_more : Stepped m k w (get_or offsets e 0) at size t → Wrote offsets n (at + size) l k
    wrote_more st = record { long = st.long ∙ y.long; keeps = keep; fills = fill }
      where
        keep : (wanted : List ℕ) → Placed (added_by it) offsets wanted → Done offsets n wanted l → (x : ℕ) → Agree wanted l x → Agree wanted k x
        keep d p o x g = st.keeps d (source d p o) x (y.keeps d p o x g)

        fill : (wanted : List ℕ) → Placed (added_by it) offsets wanted → Done offsets n wanted l → (x : ℕ) → get_or offsets n 0 ≤ x → x < at + size → Agree wanted k x
        fill d p o x h g = by (ltb x at) refl
          where
            by : (b : Bool) → ltb x at ≡ b → Agree d k x
            by true z = st.keeps d (source d p o) x (y.fills d p o x h (ltb-true x at z))
            by false z =
                let ge = ltb-false x at z in
                let i : at + (x - at) ≡ x = omega arith in
                subst (λ (j : ℕ). Agree d k j) i (st.fills d (source d p o) (x - at) (omega arith))

  -- ---- all records, up to the asked one

  -- m is l with the records below n written.
  pub record Written (offsets : List ℕ) (n : ℕ) (l m : List ℕ) : Type 0 where
    pub long : length m ≡ length l
    pub keeps : (wanted : List ℕ) → Placed (added_by it) offsets wanted → (x : ℕ) → Agree wanted l x → Agree wanted m x
    pub done : (wanted : List ℕ) → Placed (added_by it) offsets wanted → Done offsets n wanted m

  pub written_none : (offsets l : List ℕ) → Written offsets 0 l l
  written_none offsets l = record { long = refl; keeps = λ d p x a. a; done = λ d p x h. absurd (omega arith) }

  done_next : (offsets : List ℕ) (n : ℕ) (wanted l : List ℕ) → Done offsets n wanted l → (0 < get_or offsets n 0 → (i : ℕ) → i < length (added_by it n) → Agree wanted l (get_or offsets n 0 + i)) → Done offsets (n + 1) wanted l
  done_next offsets n wanted l o new x h = by (eqb x n) refl
    where
      by : (b : Bool) → eqb x n ≡ b → 0 < get_or offsets x 0 → (i : ℕ) → i < length (added_by it x) → Agree wanted l (get_or offsets x 0 + i)
      by true z = rw (eqb-true x n z) new
      by false z = let f : (x ≡ n → ⊥) = eqb-false x n z in o x (omega arith)

  pub written_skip : {offsets : List ℕ} {n : ℕ} {l m : List ℕ} → Written offsets n l m → get_or offsets n 0 ≡ 0 → Written offsets (n + 1) l m
  written_skip {offsets} {n} {l} {m} y e = record { long = y.long; keeps = y.keeps; done = λ d p. done_next offsets n d m (y.done d p) (λ g. absurd (omega arith)) }

  pub written_more : {offsets : List ℕ} {n : ℕ} {l m k : List ℕ} → Written offsets n l m → Wrote offsets n (get_or offsets n 0 + length (added_by it n)) m k → Written offsets (n + 1) l k
  written_more {offsets} {n} {l} {m} {k} y z = record {
    long = z.long ∙ y.long;
    keeps = λ d p x a. z.keeps d p (y.done d p) x (y.keeps d p x a);
    done = λ d p. done_next offsets n d k (λ x h g i b. z.keeps d p (y.done d p) _ (y.done d p x h g i b)) (λ g i b. z.fills d p (y.done d p) _ (omega arith) (omega arith));
  }

  -- What is asked for writing all records: those with places are linked, all lies within the list, and the sizes are exact there.
  pub record Writable (sizes offsets : List ℕ) (asked : ℕ) (l : List ℕ) : Type 0 where
    pub checked : Checked it (asked + 1)
    pub sizes_long : asked ≤ length sizes
    pub offsets_long : asked < length offsets
    pub wanted : List ℕ
    pub fits : length wanted ≤ length l
    pub laid : Laid it asked 0 wanted offsets
    pub cap : ℕ
    pub small : cap < 2 ^ 61
    pub wide : length wanted ≤ cap
    pub sized : Sized (added_by it) sizes asked cap

  pub ready : {sizes offsets : List ℕ} {asked n : ℕ} {l m : List ℕ} → Writable sizes offsets asked l → n ≤ asked → 0 < get_or offsets n 0 → length m ≡ length l → Ready sizes offsets n m
  ready {sizes} {offsets} {asked} {n} w h p long = record {
    checked = checked_less (omega arith) w.checked;
    sizes_long = omega (arith, w.sizes_long);
    offsets_long = omega (arith, w.offsets_long);
    roomy = record { cap = w.cap; small = w.small; sized = sized_less h w.sized; room = omega (arith, (w.laid.placed n p).bound, w.wide); after_first = p };
    inside = λ x g. omega (arith, (w.laid.placed x g).bound, w.fits);
    linked = w.laid.linked n (omega arith) h p;
  }

  -- ---- the whole path

  pub whole : (offsets : List ℕ) (asked : ℕ) (l m : List ℕ) → suc (length (added_by it asked)) ≤ length l
      → Laid it asked 0 (start_at it asked ∷ added_by it asked) offsets
      → Written offsets (asked + 1) (set l 0 (start_at it asked)) m
      → m ≡ (start_at it asked ∷ added_by it asked) ++ drop (suc (length (added_by it asked))) l
  whole offsets asked l m room laid written = ext_get_or 0 m all same_long (λ i h. by i (eqb i 0) (ltb i (length path)) refl refl)
    where
      s : State
      s = start_at it asked

      path : List State
      path = start_at it asked ∷ added_by it asked

      all : List State
      all = path ++ drop (length path) l

      placed : Placed (added_by it) offsets all
      placed x g = lies_longer path (drop (length path) l) (laid.placed x g)

      same_long : length m ≡ length all
      same_long = written.long ∙ length-set l 0 s ∙ (let d = length-drop (length path) l in let e = length-append path (drop (length path) l) in omega arith)

      tail : (i : ℕ) → length path ≤ i → get_or all i 0 ≡ get_or l i 0
      tail i h =
          let e : length path + (i - length path) ≡ i = omega arith in
          subst (λ (j : ℕ). get_or all j 0 ≡ get_or l j 0) e (get_or-append-add path (drop (length path) l) (i - length path) 0 ∙ get_or-drop (length path) l (i - length path) 0)

      by : (i : ℕ) (b d : Bool) → eqb i 0 ≡ b → ltb i (length path) ≡ d → get_or m i 0 ≡ get_or all i 0
      by i true d z q = rw (eqb-true i 0 z) (written.keeps all placed 0 (get_or-set_same l 0 s 0 (omega arith)))
      by i false true z q =
          let ne : (i ≡ 0 → ⊥) = eqb-false i 0 z in
          let lt : i < length path = ltb-true i (length path) q in
          let e : get_or offsets asked 0 + (i - 1) ≡ i = omega (arith, laid.root) in
          subst (λ (j : ℕ). Agree all m j) e (written.done all placed asked (omega arith) (omega (arith, laid.root)) (i - 1) (omega arith))
      by i false false z q =
          let ne : (i ≡ 0 → ⊥) = eqb-false i 0 z in
          written.keeps all placed i (get_or-set_other l 0 i s 0 ne ∙ sym (tail i (ltb-false i (length path) q)))

-- A path is listed in l if it has at most so many states: the count of its states, none if not, and the list afterwards.
pub record PathListed (path : List ℕ) (most : ℕ) (l : List ℕ) (listed : Option ℕ) (l' : List ℕ) : Type 0 where
  pub the_count : listed ≡ cond (ltb most (length path)) None (Some (length path))
  pub the_list : l' ≡ cond (ltb most (length path)) l (path ++ drop (length path) l)

-- listed with so many places, and so with more
pub listed_fewer : {path : List ℕ} {fewer most : ℕ} {l : List ℕ} {listed : Option ℕ} {l' : List ℕ} → length path ≤ fewer → fewer ≤ most → PathListed path fewer l listed l'
    → PathListed path most l listed l'
listed_fewer {path} {fewer} {most} short h y =
    let fits = le-ltb fewer (length path) short in
    let more : ltb most (length path) ≡ false = le-ltb most (length path) (omega arith) in
    record { the_count = rw more (rw fits at y.the_count); the_list = rw more (rw fits at y.the_list) }
