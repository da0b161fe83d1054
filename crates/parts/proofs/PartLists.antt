-- The parts in a list, and lists that grow by parts. Assumes nothing.
use Prim.Native.Nat.{ℕ, zero, suc, ◌+◌, ◌*◌, ◌-◌, ◌≤◌, ◌<◌}
use native.Mathlib.Omega.{arith}
use native.Mathlib.Numerals.{add-one}
use native.Mathlib.Decide.{dec_lt}
use mathlib.Core.Logic.{◌≢◌}
use mathlib.Core.Path.{◌≡◌, refl, ap, sym, ◌∙◌, subst}
use mathlib.Core.Bool.{true, false}
use mathlib.Core.List.{List, [], ◌∷◌, ◌++◌}
use lib.ListN.{length, get_or, set, length-set, length-append}
use lib.Seq.{slice, get_or-set_same, get_or-set_other}
use Rattle.chars.specs.Places.{same, place}
use Rattle.fields.proofs.NamePlaces.{place_hit, place_miss}
use Rattle.parts.specs.Parts.{Lies, At, Inside, Grows, part_at, parts_from}

module _ (u list : List ℕ) where
  -- the parts from k up to hi, by the first of them
  pub parts_first : (k hi : ℕ) → k < hi → parts_from u list k (hi - k) ≡ part_at u list k ∷ parts_from u list (k + 1) (hi - (k + 1))
  unfolding parts_from
  parts_first k hi h =
      let e : hi - k ≡ suc (hi - (k + 1)) = omega arith in
      ap (parts_from u list k) e ∙ ap (λ (x : ℕ). part_at u list k ∷ parts_from u list x (hi - (k + 1))) (sym (add-one k))

  pub parts_none : (k hi : ℕ) → hi ≤ k → parts_from u list k (hi - k) ≡ []
  unfolding parts_from
  parts_none k hi h =
      let e : hi - k ≡ 0 = omega arith in
      ap (parts_from u list k) e

  pub parts_nil : (k : ℕ) → parts_from u list k 0 ≡ []
  unfolding parts_from
  parts_nil k = refl

  pub parts_length : (lo n : ℕ) → length (parts_from u list lo n) ≡ n
  unfolding parts_from
  parts_length lo zero = refl
  parts_length lo (suc n) = ap suc (parts_length (suc lo) n)

  -- the parts of two neighbouring ranges
  pub parts_append : (lo n m : ℕ) → parts_from u list lo n ++ parts_from u list (lo + n) m ≡ parts_from u list lo (n + m)
  unfolding parts_from
  parts_append lo zero m =
      let e : lo + 0 ≡ lo = omega arith in
      let f : 0 + m ≡ m = omega arith in
      rw (e, f)
  parts_append lo (suc n) m =
      let e : lo + suc n ≡ suc lo + n = omega arith in
      let f : suc n + m ≡ suc (n + m) = omega arith in
      rw (e, f) (ap (λ (l : List (List ℕ)). part_at u list lo ∷ l) (parts_append (suc lo) n m))

  pub part_getD : (lo n i : ℕ) → i < n → get_or (parts_from u list lo n) i [] ≡ part_at u list (lo + i)
  unfolding parts_from
  part_getD lo zero i h = absurd (omega arith)
  part_getD lo (suc n) zero h = ap (part_at u list) (omega arith)
  part_getD lo (suc n) (suc i) h = part_getD (suc lo) n i (omega arith) ∙ ap (part_at u list) (omega arith)

  module _ (f : List ℕ) (k hi : ℕ) where
    pub found : k < hi → same f (part_at u list k) ≡ true → k + place f (parts_from u list k (hi - k)) ≡ k
    found h e =
        let a = ap (place f) (parts_first k hi h) in
        let b = place_hit f (part_at u list k) (parts_from u list (k + 1) (hi - (k + 1))) e in
        omega (arith, a ∙ b)

    pub passed : k < hi → same f (part_at u list k) ≡ false
        → k + place f (parts_from u list k (hi - k)) ≡ k + 1 + place f (parts_from u list (k + 1) (hi - (k + 1)))
    passed h e =
        let a = ap (place f) (parts_first k hi h) in
        let b = place_miss f (part_at u list k) (parts_from u list (k + 1) (hi - (k + 1))) e in
        omega (arith, a ∙ b)

    pub nowhere : hi ≤ k → k + place f (parts_from u list k (hi - k)) ≡ k
    unfolding place
    nowhere h = let a = ap (place f) (parts_none k hi h) in omega (arith, a)

  -- ---- one part more
  module _ (a e : ℕ) where
    abbrev with : ℕ → List ℕ
    with k = set (set list (2 * k) a) (2 * k + 1) e

    with_start : (k : ℕ) → 2 * k + 1 < length list → get_or (with k) (2 * k) 0 ≡ a
    with_start k h =
        let n = length-set list (2 * k) a in
        let d : 2 * k ≢ 2 * k + 1 = omega arith in
        get_or-set_other (set list (2 * k) a) (2 * k + 1) (2 * k) e 0 d ∙ get_or-set_same list (2 * k) a 0 (omega arith)

    with_end : (k : ℕ) → 2 * k + 1 < length list → get_or (with k) (2 * k + 1) 0 ≡ e
    with_end k h =
        let n = length-set list (2 * k) a in
        get_or-set_same (set list (2 * k) a) (2 * k + 1) e 0 (omega arith)

    with_other : (k i : ℕ) → i < 2 * k → get_or (with k) i 0 ≡ get_or list i 0
    with_other k i h =
        let d : i ≢ 2 * k + 1 = omega arith in
        let c : i ≢ 2 * k = omega arith in
        get_or-set_other (set list (2 * k) a) (2 * k + 1) i e 0 d ∙ get_or-set_other list (2 * k) i a 0 c

    part_there : (k : ℕ) → 2 * k + 1 < length list → part_at u (with k) k ≡ slice a e u
    part_there k h = ap (λ (x : ℕ). slice x (get_or (with k) (2 * k + 1) 0) u) (with_start k h) ∙ ap (λ (x : ℕ). slice a x u) (with_end k h)

    part_other : (k i : ℕ) → i < k → part_at u (with k) i ≡ part_at u list i
    part_other k i h = ap (λ (x : ℕ). slice x (get_or (with k) (2 * i + 1) 0) u) (with_other k (2 * i) (omega arith)) ∙ ap (λ (x : ℕ). slice (get_or list (2 * i) 0) x u) (with_other k (2 * i + 1) (omega arith))

    parts_other : (k lo n : ℕ) → lo + n ≤ k → parts_from u (with k) lo n ≡ parts_from u list lo n
    unfolding parts_from
    parts_other k lo zero h = refl
    parts_other k lo (suc n) h = rw (part_other k lo (omega arith), parts_other k (suc lo) n (omega arith)) refl

    at_with : (cut k i : ℕ) → 2 * k + 1 < length list → Lies cut (length u) a e → Inside cut u list k → i < k + 1 → Dec (i < k) → At cut u (with k) i
    at_with cut k i h l g q (yes r) =
        let n = length-set (set list (2 * k) a) (2 * k + 1) e ∙ length-set list (2 * k) a in
        let x = (g i r).room in
        record { room = omega arith; lies = rw (with_other k (2 * i) (omega arith), with_other k (2 * i + 1) (omega arith)) (g i r).lies }
    at_with cut k i h l g q (no r) =
        let n = length-set (set list (2 * k) a) (2 * k + 1) e ∙ length-set list (2 * k) a in
        let z : i ≡ k = omega arith in
        record { room = omega arith; lies = rw (z, with_start k h, with_end k h) l }

    pub grows_with : (cut k : ℕ) → 2 * (k + 1) ≤ length list → Lies cut (length u) a e → Grows cut u list k (with k) (k + 1) (slice a e u ∷ [])
    unfolding parts_from
    grows_with cut k h l = record {
      longer = omega arith;
      kept = λ lo n q. parts_other k lo n q;
      new = ap (λ (x : List ℕ). x ∷ []) (part_there k (omega arith));
      inside = λ g i q. at_with cut k i (omega arith) l g q (dec_lt i k);
    }

-- ---- lists that grow
module _ (cut : ℕ) (u : List ℕ) where
  pub grows_none : (l : List ℕ) (n : ℕ) → Grows cut u l n l n []
  unfolding parts_from
  grows_none l n = record { longer = omega arith; kept = λ k m h. refl; new = refl; inside = λ g. g }

  pub grows_as : (l l' : List ℕ) (n r : ℕ) (x y : List (List ℕ)) → x ≡ y → Grows cut u l n l' r x → Grows cut u l n l' r y
  grows_as l l' n r x y e g = subst (λ (z : List (List ℕ)). Grows cut u l n l' r z) e g

  pub grows_then : (l l' l'' : List ℕ) (n r q : ℕ) (x y : List (List ℕ)) → Grows cut u l n l' r x → Grows cut u l' r l'' q y → Grows cut u l n l'' q (x ++ y)
  grows_then l l' l'' n r q x y g h =
      let a = g.longer in
      let b = h.longer in
      let c = length-append x y in
      record {
        longer = omega arith;
        kept = λ k m i. h.kept k m (omega arith) ∙ g.kept k m i;
        new =
            ap (parts_from u l'' n) c ∙ sym (parts_append u l'' n (length x) (length y))
            ∙ ap (λ (z : List (List ℕ)). z ++ parts_from u l'' (n + length x) (length y)) (h.kept n (length x) (omega arith) ∙ g.new)
            ∙ ap (λ (k : ℕ). x ++ parts_from u l'' k (length y)) (sym a)
            ∙ ap (λ (z : List (List ℕ)). x ++ z) h.new;
        inside = λ i. h.inside (g.inside i);
      }

  -- a range that ends where the parts ended, with what came behind
  pub grows_range : (l l' : List ℕ) (n r base : ℕ) (x : List (List ℕ)) → base ≤ n → Grows cut u l n l' r x → parts_from u l' base (r - base) ≡ parts_from u l base (n - base) ++ x
  grows_range l l' n r base x b g =
      let a = g.longer in
      let e : r - base ≡ (n - base) + length x = omega arith in
      let f : base + (n - base) ≡ n = omega arith in
      ap (parts_from u l' base) e ∙ sym (parts_append u l' base (n - base) (length x))
      ∙ ap (λ (z : List (List ℕ)). z ++ parts_from u l' (base + (n - base)) (length x)) (g.kept base (n - base) (omega arith))
      ∙ ap (λ (k : ℕ). parts_from u l base (n - base) ++ parts_from u l' k (length x)) f
      ∙ ap (λ (z : List (List ℕ)). parts_from u l base (n - base) ++ z) g.new

  -- a part below stays
  pub grows_part : (l l' : List ℕ) (n r i : ℕ) (x : List (List ℕ)) → i < n → Grows cut u l n l' r x → part_at u l' i ≡ part_at u l i
  unfolding parts_from
  grows_part l l' n r i x h g = ap (λ (z : List (List ℕ)). get_or z 0 []) (g.kept i 1 (omega arith))

  pub grows_longer : (l l' : List ℕ) (n r : ℕ) (x : List (List ℕ)) → Grows cut u l n l' r x → n ≤ r
  grows_longer l l' n r x g = let a = g.longer in omega arith
