-- The lines of a joined text and the fields of a written line. Assumes nothing.
use Prim.Native.Nat.{ℕ}
use mathlib.Core.Path.{◌≡◌, refl, ap, ◌∙◌}
use mathlib.Core.Bool.{true, not}
use mathlib.Core.List.{List, [], ◌∷◌, ◌++◌, append-nil}
use lib.Dec.{eqb}
use borrow.Author.Tests.{eq-eqb, not-true}
use Rattle.steps.proofs.EachBelow.{both}
use Rattle.chars.specs.Bytes.{TAB, LF, all}
use Rattle.chars.specs.Pieces.{pieces, lines, fields}
use Rattle.writer.specs.Text.{tabbed}

-- no byte of the list is b
abbrev pub Free : ℕ → List ℕ → Type 0
Free b l = all (λ x. not (eqb x b)) l ≡ true

cut : (last : List (List ℕ)) (b : ℕ) (l rest : List ℕ) → Free b l → pieces last b (l ++ (b ∷ rest)) ≡ l ∷ pieces last b rest
unfolding pieces
cut last b [] rest h = rw (eq-eqb b b refl) refl
cut last b (x ∷ xs) rest h =
    let (n, t) = both (not (eqb x b)) (all (λ x. not (eqb x b)) xs) h in
    rw (not-true (eqb x b) n, cut last b xs rest t) refl

whole : (b : ℕ) (l : List ℕ) → Free b l → pieces ([] ∷ []) b l ≡ l ∷ []
unfolding pieces
whole b [] h = refl
whole b (x ∷ xs) h =
    let (n, t) = both (not (eqb x b)) (all (λ x. not (eqb x b)) xs) h in
    rw (not-true (eqb x b) n, whole b xs t) refl

pub lines_line : (l rest : List ℕ) → Free LF l → lines (l ++ (LF ∷ rest)) ≡ l ∷ lines rest
unfolding lines
lines_line l rest h = cut [] LF l rest h

-- every field is free of b
pub data AllFree (b : ℕ) : List (List ℕ) → Type 0 where
  none_free : AllFree b []
  more_free : {f : List ℕ} {fs : List (List ℕ)} → Free b f → AllFree b fs → AllFree b (f ∷ fs)

pub fields_line : (w : List ℕ) (fs : List (List ℕ)) → Free TAB w → AllFree TAB fs → fields (w ++ tabbed fs) ≡ w ∷ fs
unfolding fields
fields_line w [] h none_free = ap (pieces ([] ∷ []) TAB) (append-nil w) ∙ whole TAB w h
fields_line w (f ∷ fs) h (more_free k ks) = cut ([] ∷ []) TAB w (f ++ tabbed fs) h ∙ ap (λ (l : List (List ℕ)). w ∷ l) (fields_line f fs k ks)
