-- Laws of rows told off against those of another table, and of tables that hold the same rows. Assumes nothing.
use Prim.Native.Nat.{ℕ, zero, suc, ◌+◌, ◌<◌}
use native.Mathlib.Omega.{arith}
use native.Mathlib.Decide.{ℕ_discrete, dec_lt}
use mathlib.Core.Path.{◌≡◌, refl, sym, ap, ◌∙◌}
use mathlib.Core.Bool.{Bool, true, false}
use mathlib.Core.Logic.{◌≢◌}
use Rattle.steps.specs.Counting.{Distinct, more, Exactly, rows}
use Rattle.steps.proofs.Rows.{rows_in, rows_out, row_is, table_exactly}
use Rattle.matching.specs.Flags.{Whether, RowForRow, RowFound, Matched}

-- ---- telling off
module _ {X : Type 0} {row row' : ℕ → X} {e : ℕ} where
  pub matched_none : {flags : ℕ → ℕ} → ((j : ℕ) → j < e → flags j ≡ 0) → Matched row 0 row' e flags
  matched_none z = record { each = λ k l. absurd (omega arith); other = λ j l h. absurd (omega (arith, z j l)) }

  -- One row more, whose record had no flag.
  pub matched_more : {flags flags' : ℕ → ℕ} (i r : ℕ) → Matched row i row' e flags → r < e → row i ≡ row' r → flags r ≡ 0 → flags' r ≡ i + 1
      → ((j : ℕ) → j ≢ r → flags' j ≡ flags j) → Matched row (i + 1) row' e flags'
  matched_more {flags} {flags'} i r m l h free here stays = record {
    each = λ k b. elim (ℕ_discrete k i) [
      | yes z ↦ rw z (r, l, h, here)
      | no n ↦ (let (j, u, v, w) = m.each k (omega arith) in (j, u, v, stays j (away k j w) ∙ w))
    ];
    other = λ j b p. elim (ℕ_discrete j r) [
      | yes z ↦ (i, omega arith, rw z h)
      | no n ↦ (let (k, u, v) = m.other j b (rw (stays j n) at p) in (k, omega arith, v))
    ];
  }
    where
      away : (k j : ℕ) → flags j ≡ k + 1 → j ≢ r
      away k j w z = let f : flags r ≡ k + 1 = rw z at w in omega arith

  -- A row that is not there, or whose record has a flag, since a row before it is the same.
  pub matched_refused : {flags : ℕ → ℕ} {t : ℕ} (i r : ℕ) → Matched row i row' e flags → i < t → RowFound (row i) row' e r → (r < e → 0 < flags r)
      → RowForRow row t row' e → ⊥
  matched_refused {t = t} i r m l f taken p = by (dec_lt r e)
    where
      by : Dec (r < e) → ⊥
      by (yes h) = let (k, u, v) = m.other r h (taken h) in p.once k i u l (v ∙ sym (f.found h))
      by (no n) = let (j, u, v) = p.held i l in f.absent (omega arith) j u v

  module _ {flags : ℕ → ℕ} {t : ℕ} (once : (j k : ℕ) → j < e → k < e → row' j ≡ row' k → j ≡ k) (m : Matched row t row' e flags) where
    -- Where no flag is missing, the rows are the same,
    pub matched_all : ((j : ℕ) → j < e → 0 < flags j) → RowForRow row t row' e
    matched_all all = record {
      held = λ i l. let (j, u, v, w) = m.each i l in (j, u, v);
      all = λ j l. m.other j l (all j l);
      once = λ i k l h z.
          let (j, u, v, w) = m.each i (omega arith) in
          let (j', u', v', w') = m.each k h in
          let f : flags j ≡ k + 1 = ap flags (once j j' u u' (sym v ∙ z ∙ v')) ∙ w' in
          absurd (omega arith);
    }

    -- and where the rows are the same, none is.
    pub all_matched : RowForRow row t row' e → (j : ℕ) → j < e → 0 < flags j
    all_matched p j l =
        let (i, u, v) = p.all j l in
        let (k, b, h, w) = m.each i u in
        let f : flags j ≡ i + 1 = ap flags (once j k l b (sym v ∙ h)) ∙ w in
        omega arith

    -- So the flags tell whether they are.
    pub told_whether : (b : Bool) → Whether ((j : ℕ) → j < e → 0 < flags j) b → Whether (RowForRow row t row' e) b
    told_whether true h = matched_all h
    told_whether false h = λ p. h (all_matched p)

pub whether_same : {P Q : Type 0} (b : Bool) → (P → Q) → (Q → P) → Whether P b → Whether Q b
whether_same true f g h = f h
whether_same false f g h = λ q. h (g q)

-- ---- rows that stay the same
module _ {X : Type 0} {row' row₁' : ℕ → X} where
  pub found_same : {a b : X} {e r : ℕ} → a ≡ b → ((j : ℕ) → j < e → row' j ≡ row₁' j) → RowFound a row' e r → RowFound b row₁' e r
  found_same z s f = record {
    found = λ l. sym z ∙ f.found l ∙ s _ l;
    absent = λ l j h q. f.absent l j h (z ∙ q ∙ sym (s j h));
  }

  pub rows_same : {row row₁ : ℕ → X} {t e : ℕ} → ((i : ℕ) → i < t → row i ≡ row₁ i) → ((j : ℕ) → j < e → row' j ≡ row₁' j) → RowForRow row t row' e
      → RowForRow row₁ t row₁' e
  rows_same s s' p = record {
    held = λ i l. let (j, u, v) = p.held i l in (j, u, sym (s i l) ∙ v ∙ s' j u);
    all = λ j l. let (i, u, v) = p.all j l in (i, u, sym (s i u) ∙ v ∙ s' j l);
    once = λ i k l h z. p.once i k l h (s i (omega arith) ∙ z ∙ sym (s k h));
  }

-- ---- tables that hold exactly some rows

-- Rows without repeats are apart.
rows_apart : {X : Type 0} (row : ℕ → X) (n : ℕ) → Distinct (rows row n) → (i j : ℕ) → i < j → j < n → row i ≢ row j
unfolding rows
rows_apart row zero d i j l h = absurd (omega arith)
rows_apart row (suc n) (more new d) i j l h = elim (ℕ_discrete j n) [
  | yes e ↦ rw e (new (row i) (rows_in row n i (row i) (omega arith) refl))
  | no k ↦ rows_apart row n d i j l (omega arith)
]

module _ {X : Type 0} {P : X → Type 0} {row row' : ℕ → X} {t e : ℕ} where
  -- Where the second table holds exactly P, the first does.
  pub paired_exactly : RowForRow row t row' e → Exactly P (rows row' e) → Exactly P (rows row t)
  paired_exactly p x = table_exactly row P t p.once sound complete
    where
      sound : (i : ℕ) → i < t → P (row i)
      sound i l = let (j, u, v) = p.held i l in rw v (row_is row' e x j u)

      complete : (a : X) → P a → (i : ℕ) × (i < t) × (a ≡ row i)
      complete a h =
          let (j, u, v) = rows_out row' e a ((x.members a).1 h) in
          let (i, l, w) = p.all j u in
          (i, l, v ∙ sym w)

  -- Two tables that hold exactly P hold the same rows.
  pub exactly_paired : Exactly P (rows row t) → Exactly P (rows row' e) → RowForRow row t row' e
  exactly_paired x y = record {
    held = λ i l. rows_out row' e (row i) ((y.members (row i)).1 (row_is row t x i l));
    all = λ j l. let (i, u, v) = rows_out row t (row' j) ((x.members (row' j)).1 (row_is row' e y j l)) in (i, u, sym v);
    once = rows_apart row t x.once;
  }
