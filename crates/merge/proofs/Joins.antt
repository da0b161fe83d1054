-- What a merge that is not refused has: two accepted sheets, no name of both kinds, counts and a text within the limits. Assumes nothing.
use Prim.Native.Nat.{ℕ, ◌≤◌}
use mathlib.Core.Path.{◌≡◌, refl, ap, ◌∙◌, subst}
use mathlib.Core.Bool.{Bool, true, false, cond}
use mathlib.Core.List.{List}
use lib.ListN.{length}
use lib.Dec.{ltb}
use native.Mathlib.Omega.{arith}
use borrow.Author.Tests.{ltb-false}
use Rattle.refusals.specs.Sheet.{sheet_refusals, line_refusals}
use Rattle.refusals.specs.Text.{text_refusals}
use Rattle.chars.specs.Places.{meets}
use Rattle.fields.specs.Book.{Book}
use Rattle.lines.specs.Reader.{Outcome, read_sheet, refused, written}
use Rattle.writer.specs.Text.{text_of}
use Rattle.merge.specs.Joined.{both_names, book_over, both_books, crossed}
use Rattle.merge.specs.Merge.{faulty, joins, merge_of, judge, oversized}
use Rattle.merge.proofs.Together.{or_first}

pub not_joins : (k n l : ℕ) (a b : Book) → faulty k n l ≡ joins a b → ⊥
not_joins k n l a b e = let z : ◌≡◌ {A = ℕ} 0 1 = cc in omega arith

pub joins_first : {a b c d : Book} → joins a b ≡ joins c d → a ≡ c
joins_first e = cc

pub joins_second : {a b c d : Book} → joins a b ≡ joins c d → b ≡ d
joins_second e = cc

-- two books that the judge lets through
pub record Fits (a b : Book) : Type 0 where
  pub apart : crossed a.names b.names ≡ false
  pub room : oversized (both_books a b) ≡ false
  pub short : length (text_of (both_books a b)) ≤ 65536

fits : (a b c d : Book) → judge a b ≡ joins c d → Fits a b
unfolding judge
fits a b c d = by (crossed a.names b.names) refl (oversized (both_books a b)) refl (ltb 65536 (length (text_of (both_books a b)))) refl
  where
    by : (t : Bool) → crossed a.names b.names ≡ t → (u : Bool) → oversized (both_books a b) ≡ u → (v : Bool) → ltb 65536 (length (text_of (both_books a b))) ≡ v
        → cond t (faulty text_refusals.both_kinds 0 0) (cond u (faulty line_refusals.too_many 0 0) (cond v (faulty sheet_refusals.too_long 0 0) (joins a b))) ≡ joins c d → Fits a b
    by true e u f v g h = absurd (not_joins text_refusals.both_kinds 0 0 c d h)
    by false e true f v g h = absurd (not_joins line_refusals.too_many 0 0 c d h)
    by false e false f true g h = absurd (not_joins sheet_refusals.too_long 0 0 c d h)
    by false e false f false g h = record { apart = e; room = f; short = ltb-false 65536 (length (text_of (both_books a b))) g }

judged_same : (a b c d : Book) → judge a b ≡ joins c d → (a ≡ c) × (b ≡ d)
unfolding judge
judged_same a b c d = by (crossed a.names b.names) (oversized (both_books a b)) (ltb 65536 (length (text_of (both_books a b))))
  where
    by : (t u v : Bool) → cond t (faulty text_refusals.both_kinds 0 0) (cond u (faulty line_refusals.too_many 0 0) (cond v (faulty sheet_refusals.too_long 0 0) (joins a b))) ≡ joins c d → (a ≡ c) × (b ≡ d)
    by true u v h = absurd (not_joins text_refusals.both_kinds 0 0 c d h)
    by false true v h = absurd (not_joins line_refusals.too_many 0 0 c d h)
    by false false true h = absurd (not_joins sheet_refusals.too_long 0 0 c d h)
    by false false false h = (joins_first h, joins_second h)

pub record Joins (s t : List ℕ) (a b : Book) : Type 0 where
  pub first : read_sheet s ≡ written a
  pub second : read_sheet t ≡ written b
  pub fits : Fits a b

pub joins_told : (s t : List ℕ) (a b : Book) → merge_of s t ≡ joins a b → Joins s t a b
unfolding merge_of
joins_told s t a b = by (read_sheet s) refl
  where
    after : (c : Book) → read_sheet s ≡ written c → (o : Outcome) → read_sheet t ≡ o → elim o [ refused number line ↦ faulty number 2 line | written d ↦ judge c d ] ≡ joins a b → Joins s t a b
    after c e (refused k n) f h = absurd (not_joins k 2 n a b h)
    after c e (written d) f h =
        let (p, q) = judged_same c d a b h in
        record {
          first = e ∙ ap (λ (x : Book). written x) p;
          second = f ∙ ap (λ (x : Book). written x) q;
          fits = subst (λ (x : Book). Fits x b) p (subst (λ (x : Book). Fits c x) q (fits c d a b h));
        }

    by : (o : Outcome) → read_sheet s ≡ o
        → elim o [ refused number line ↦ faulty number 1 line | written c ↦ elim (read_sheet t) [ refused number line ↦ faulty number 2 line | written d ↦ judge c d ] ] ≡ joins a b → Joins s t a b
    by (refused k n) e h = absurd (not_joins k 1 n a b h)
    by (written c) e h = after c e (read_sheet t) refl h

-- the limits
pub record Within (m : Book) : Type 0 where
  pub few_fluents : length m.names.fluents ≤ 64
  pub few_actions : length m.names.actions ≤ 64
  pub few_rules : length m.rules ≤ 256

pub within : (m : Book) → oversized m ≡ false → Within m
within m h =
    let (f, r) = or_first (ltb 64 (length m.names.fluents)) _ h in
    let (a, n) = or_first (ltb 64 (length m.names.actions)) _ r in
    record { few_fluents = ltb-false 64 _ f; few_actions = ltb-false 64 _ a; few_rules = ltb-false 256 _ n }

-- two books whose names fit: no name of both kinds, and not too many
pub record NamesFit (a b : Book) : Type 0 where
  pub apart : crossed a.names b.names ≡ false
  pub few_fluents : length (both_names a.names b.names).fluents ≤ 64
  pub few_actions : length (both_names a.names b.names).actions ≤ 64

pub names_fit : (a b : Book) → Fits a b → NamesFit a b
unfolding book_over
names_fit a b f = let w = within (both_books a b) f.room in record { apart = f.apart; few_fluents = w.few_fluents; few_actions = w.few_actions }

pub uncrossed : (a b : Book) → crossed a.names b.names ≡ false → (meets a.names.fluents b.names.actions ≡ false) × (meets a.names.actions b.names.fluents ≡ false)
unfolding crossed
uncrossed a b h = or_first (meets a.names.fluents b.names.actions) (meets a.names.actions b.names.fluents) h
