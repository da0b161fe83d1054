-- How a round finds the answers to look at again: first the new ones, from the last to the first; then, from each record with new answers, back
-- to the answer after which walks come to it, and so on, up to a record that is come to after none or that is looked at already. Assumes nothing.
use Prim.Native.Nat.{ℕ, ◌+◌, ◌-◌, ◌<◌, ◌≤◌, min}
use native.Mathlib.Omega.{arith}
use native.Mathlib.Decide.{ℕ_discrete}
use mathlib.Core.Path.{◌≡◌, refl, sym, subst, ap, ◌∙◌}
use mathlib.Core.Bool.{Bool, true}
use mathlib.Core.Logic.{◌⊎◌, inl, inr}
use Rattle.records.specs.Records.{Answers}
use Rattle.uses.specs.Uses.{Uses, Own, via, start, heat, Hot, Newest, Up, StartPut, Lighted, Looked, Heating, Begun}
use Rattle.uses.proofs.UsesLaws.{before_trans}

module _ {uses uses' : Uses} {k y h : ℕ} (S : StartPut uses k y h uses') where
  pub heat_most : (most : ℕ) → h ≤ most → ((i : ℕ) → heat uses i ≤ most) → (i : ℕ) → heat uses' i ≤ most
  heat_most most l m i = by (ℕ_discrete i k)
    where
      by : Dec (i ≡ k) → heat uses' i ≤ most
      by (yes e) = rw (e, S.heat_here) l
      by (no n) = rw (S.heats i n) (m i)

  module _ (answers : Answers) (seen : ℕ) (small : k < 65536) where
    -- what was looked at still is, if k was not, or not before y
    pub start_hot : seen ≤ h → (seen ≤ heat uses k → y ≤ start uses k) → (z : ℕ) → Hot answers uses seen z → Hot answers uses' seen z
    start_hot lit more z (l, a, b) = by (ℕ_discrete (answers.call z) k)
      where
        by : Dec (answers.call z ≡ k) → Hot answers uses' seen z
        by (yes e) = rw (e, S.start_here, S.heat_here) (small, lit, omega (arith, more (rw e at a), rw e at b))
        by (no n) = rw (S.starts (answers.call z) n, S.heats (answers.call z) n) (l, a, b)

    pub start_new : seen ≤ h → (z : ℕ) → answers.call z ≡ k → y ≤ z → Hot answers uses' seen z
    start_new lit z e l = rw (e, S.start_here, S.heat_here) (small, lit, l)

    pub start_up : seen ≤ h → (seen ≤ heat uses k → y ≤ start uses k) → (known i : ℕ) → i < 65536 → Up answers uses seen known i → Up answers uses' seen known i
    start_up lit more known i l (inl e) = inl (S.low.vias i ∙ e)
    start_up lit more known i l (inr (z, e, j, w)) = inr (z, S.low.vias i ∙ e, j, start_hot lit more z w)

    -- the first of the new answers stays noted
    pub start_newest : (seen ≤ heat uses k → h ≡ heat uses k) → (z : ℕ) → Newest answers uses seen z → Newest answers uses' seen z
    start_newest same z (l, a, b, c) = by (ℕ_discrete (answers.call z) k)
      where
        by : Dec (answers.call z ≡ k) → Newest answers uses' seen z
        by (yes e) =
            let f : heat uses' (answers.call z) ≡ heat uses (answers.call z) = rw e (S.heat_here ∙ same (rw e at a)) in
            rw f (l, a, b, c)
        by (no n) = rw (S.heats (answers.call z) n) (l, a, b, c)

pub light_next : {answers : Answers} {uses uses' uses'' : Uses} {seen known x k : ℕ} → Lighted answers uses uses' seen known (x + 1) → StartPut uses' k x x uses'' → seen ≤ x → x < known → answers.call x ≡ k → k < 65536
    → Lighted answers uses uses'' seen known x
light_next {answers} {uses} {uses'} {uses''} {seen} {known} {x} {k} L S after below e small = record {
  low = before_trans L.low S.low;
  most = heat_most S (known - 1) (omega arith) L.most;
  newest = λ y l h. newest y l h (ℕ_discrete (answers.call y) k);
  hot = λ y l h. hot y l h (ℕ_discrete (answers.call y) k);
  own = λ some i l. own some i l (ℕ_discrete i k);
}
  where
    here : heat uses'' k ≡ x
    here = S.heat_here

    later : {y : ℕ} → x ≤ y → (answers.call y ≡ k → ⊥) → x + 1 ≤ y
    later {y} l n = elim (ℕ_discrete x y) [ yes z ↦ absurd (n (subst (λ (i : ℕ). answers.call i ≡ k) z e)) | no m ↦ omega arith ]

    newest : (y : ℕ) → x ≤ y → y < known → Dec (answers.call y ≡ k) → Newest answers uses'' seen y
    newest y l h (yes z) = rw (z, here) (small, after, l, e)
    newest y l h (no n) = rw (S.heats (answers.call y) n) (L.newest y (later l n) h)

    hot : (y : ℕ) → x ≤ y → y < known → Dec (answers.call y ≡ k) → Hot answers uses'' seen y
    hot y l h (yes z) = start_new S answers seen small after y z l
    hot y l h (no n) =
        let w : Hot answers uses' seen y = L.hot y (later l n) h in
        rw (S.starts (answers.call y) n, S.heats (answers.call y) n) w

    own : 0 < seen → (i : ℕ) → seen ≤ heat uses'' i → Dec (i ≡ k) → Own answers uses'' i
    own some i l (yes z) = rw (z, here) e
    own some i l (no n) = let f = S.heats i n in rw f (L.own some i (rw f at l))

-- x is not the first new answer of its record: there is nothing to do for it
pub look_other : {answers : Answers} {uses uses' : Uses} {seen known x : ℕ} → Looked answers uses uses' seen known x true → (heat uses' (answers.call x) ≡ x → ⊥) → Looked answers uses uses' seen known (x + 1) true
look_other {answers} {uses} {uses'} {seen} {known} {x} L n = record { low = L.low; most = L.most; newest = L.newest; hot = L.hot; up = λ e own k l h. up k (L.up e own k l h) }
  where
    up : (k : ℕ) → Up answers uses' seen known k ⊎ ((x ≤ heat uses' k) × Own answers uses' k) → Up answers uses' seen known k ⊎ ((x + 1 ≤ heat uses' k) × Own answers uses' k)
    up k (inl u) = inl u
    up k (inr (l, o)) = by (ℕ_discrete (heat uses' k) x)
      where
        by : Dec (heat uses' k ≡ x) → Up answers uses' seen known k ⊎ ((x + 1 ≤ heat uses' k) × Own answers uses' k)
        by (yes e) =
            let c : answers.call x ≡ k = sym (ap answers.call e) ∙ o in
            absurd (n (rw c e))
        by (no m) = inr (omega arith, o)

-- it is: the answer before its record is next
pub heat_start : {answers : Answers} {uses uses' : Uses} {seen known x : ℕ} → Looked answers uses uses' seen known x true → Heating answers uses uses' seen known x (via uses' (answers.call x))
heat_start {answers} {uses} {uses'} {seen} {known} {x} L = record { low = L.low; most = L.most; newest = L.newest; hot = L.hot; up = λ own k l h. up k (L.up refl own k l h) }
  where
    up : (k : ℕ) → Up answers uses' seen known k ⊎ ((x ≤ heat uses' k) × Own answers uses' k)
        → Up answers uses' seen known k ⊎ (((x + 1 ≤ heat uses' k) × Own answers uses' k) ⊎ (via uses' k ≡ via uses' (answers.call x)))
    up k (inl u) = inl u
    up k (inr (l, o)) = by (ℕ_discrete (heat uses' k) x)
      where
        by : Dec (heat uses' k ≡ x) → Up answers uses' seen known k ⊎ (((x + 1 ≤ heat uses' k) × Own answers uses' k) ⊎ (via uses' k ≡ via uses' (answers.call x)))
        by (yes e) = inr (inr (ap (via uses') (sym o ∙ ap answers.call e)))
        by (no m) = inr (inl (omega arith, o))

-- it may be given up at any time
pub heat_stop : {answers : Answers} {uses uses' : Uses} {seen known x w : ℕ} (ok : Bool) → Heating answers uses uses' seen known x w → (ok ≡ true → ⊥) → Looked answers uses uses' seen known (x + 1) ok
heat_stop ok H n = record { low = H.low; most = H.most; newest = H.newest; hot = H.hot; up = λ e. absurd (n e) }

-- or there is none
pub heat_none : {answers : Answers} {uses uses' : Uses} {seen known x w : ℕ} → Heating answers uses uses' seen known x w → w ≡ 0 → Looked answers uses uses' seen known (x + 1) true
heat_none {answers} {uses} {uses'} {seen} {known} {x} {w} H e = record { low = H.low; most = H.most; newest = H.newest; hot = H.hot; up = λ _ own k l h. up k (H.up own k l h) }
  where
    up : (k : ℕ) → Up answers uses' seen known k ⊎ (((x + 1 ≤ heat uses' k) × Own answers uses' k) ⊎ (via uses' k ≡ w)) → Up answers uses' seen known k ⊎ ((x + 1 ≤ heat uses' k) × Own answers uses' k)
    up k (inl u) = inl u
    up k (inr (inl p)) = inr p
    up k (inr (inr z)) = inl (inl (z ∙ e))

-- One more record is looked at, that of the answer y before: from `from` on, for the answer h - 1.
module _ {answers : Answers} {uses uses' after : Uses} {seen known x y : ℕ} (H : Heating answers uses uses' seen known x (y + 1)) (inside : y < min known 65534) (small : answers.call y < 65536) {from h : ℕ} (S : StartPut uses' (answers.call y) from h after) (before : from ≤ y)
    (lit : seen ≤ h) (most : ((i : ℕ) → heat uses i ≤ known - 1) → h ≤ known - 1) (more : seen ≤ heat uses' (answers.call y) → from ≤ start uses' (answers.call y)) (same : seen ≤ heat uses' (answers.call y) → h ≡ heat uses' (answers.call y)) where
  abbrev k : ℕ
  k = answers.call y

  hot_here : Hot answers after seen y
  hot_here = start_new S answers seen small lit y refl before

  -- a record that was looked at, and is not that of y
  up_other : ((i : ℕ) → seen ≤ heat uses i → Own answers uses i) → (i : ℕ) → i < 65536 → seen ≤ heat uses' i → heat after i ≡ heat uses' i → Up answers after seen known i ⊎ ((x + 1 ≤ heat after i) × Own answers after i)
  up_other own i l e f = by (H.up own i l e)
    where
      by : Up answers uses' seen known i ⊎ (((x + 1 ≤ heat uses' i) × Own answers uses' i) ⊎ (via uses' i ≡ y + 1)) → Up answers after seen known i ⊎ ((x + 1 ≤ heat after i) × Own answers after i)
      by (inl u) = inl (start_up S answers seen small lit more known i l u)
      by (inr (inl (a, o))) = inr (rw f (a, o))
      by (inr (inr z)) = inl (inr (y, S.low.vias i ∙ z, inside, hot_here))

  -- it was looked at already
  pub heat_done : seen ≤ heat uses' k → Looked answers uses after seen known (x + 1) true
  heat_done was = record {
    low = before_trans H.low S.low;
    most = λ m. heat_most S (known - 1) (most m) (H.most m);
    newest = λ z n. start_newest S answers seen small same z (H.newest z n);
    hot = λ z n. start_hot S answers seen small lit more z (H.hot z n);
    up = λ _ own i l f. (let e = heats i (ℕ_discrete i k) in up_other own i l (rw e at f) e);
  }
    where
      heats : (i : ℕ) → Dec (i ≡ k) → heat after i ≡ heat uses' i
      heats i (yes e) = rw e (S.heat_here ∙ same was)
      heats i (no n) = S.heats i n

  -- it was not: the answer before it is next
  pub heat_next : Heating answers uses after seen known x (via uses' k)
  heat_next = record {
    low = before_trans H.low S.low;
    most = λ m. heat_most S (known - 1) (most m) (H.most m);
    newest = λ z n. start_newest S answers seen small same z (H.newest z n);
    hot = λ z n. start_hot S answers seen small lit more z (H.hot z n);
    up = λ own i l f. up own i l f (ℕ_discrete i k);
  }
    where
      wide : {i : ℕ} → Up answers after seen known i ⊎ ((x + 1 ≤ heat after i) × Own answers after i) → Up answers after seen known i ⊎ (((x + 1 ≤ heat after i) × Own answers after i) ⊎ (via after i ≡ via uses' k))
      wide (inl u) = inl u
      wide (inr p) = inr (inl p)

      up : ((i : ℕ) → seen ≤ heat uses i → Own answers uses i) → (i : ℕ) → i < 65536 → seen ≤ heat after i → Dec (i ≡ k)
          → Up answers after seen known i ⊎ (((x + 1 ≤ heat after i) × Own answers after i) ⊎ (via after i ≡ via uses' k))
      up own i l f (yes z) = inr (inr (S.low.vias i ∙ ap (via uses') z))
      up own i l f (no n) = let e = S.heats i n in wide (up_other own i l (rw e at f) e)

-- ---- both
pub begun : {answers : Answers} {uses uses' uses'' : Uses} {seen known : ℕ} {ok : Bool} (walked : ℕ) → 0 < seen → seen ≤ known → Lighted answers uses uses' seen known seen → Looked answers uses' uses'' seen known known ok
    → Begun answers uses uses'' walked seen known walked ok
begun {answers} {uses} {uses'} {uses''} {seen} {known} walked some in_order L R = record {
  low = before_trans L.low R.low;
  stale = most;
  lit = λ r l. (
    l,
    record {
      newest = λ y i h. R.newest y (L.newest y i h);
      looked = λ e. record { new = λ y i h. R.hot y (L.hot y i h); up = λ k i h. up k (R.up e (L.own some) k i h) };
    },
  );
}
  where
    most : (k : ℕ) → heat uses'' k ≤ known - 1
    most = R.most L.most

    up : (k : ℕ) → Up answers uses'' seen known k ⊎ ((known ≤ heat uses'' k) × Own answers uses'' k) → Up answers uses'' seen known k
    up k (inl u) = u
    up k (inr (l, o)) = absurd (omega (arith, most k))

-- or no record is passed over
pub begun_none : {answers : Answers} {uses uses' : Uses} {seen known : ℕ} (walked : ℕ) (warm : Bool) → Lighted answers uses uses' seen known seen → Begun answers uses uses' walked seen known 0 warm
begun_none walked warm L = record { low = L.low; stale = L.most; lit = λ r l. absurd (omega arith) }
