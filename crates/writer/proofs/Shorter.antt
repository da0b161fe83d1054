-- The text is no longer than the sheet, and an ended sheet is its lines, each with its LF. Assumes nothing.
use Prim.Native.Nat.{ℕ, suc, ◌-◌, ◌≤◌}
use native.Mathlib.Omega.{arith}
use mathlib.Core.Path.{◌≡◌, refl, ap, sym, ◌∙◌}
use mathlib.Core.Bool.{Bool, true, false, cond}
use mathlib.Core.List.{List, [], ◌∷◌}
use lib.ListN.{length}
use lib.Dec.{eqb, leb}
use borrow.Author.Tests.{eqb-true, leb-true, ne_eqb}
use Rattle.refusals.specs.Sheet.{sheet_refusals}
use Rattle.chars.specs.Bytes.{LF, CR, HASH, begins, clean}
use Rattle.chars.specs.Pieces.{piece_then, pieces, lines, bare}
use Rattle.fields.specs.Verdict.{Verdict, refuse, accept, ◌>>=◌, require}
use Rattle.fields.specs.Book.{Book}
use Rattle.fields.proofs.Verdicts.{required, held}
use Rattle.lines.specs.Reader.{read_sheet, whole_sheet, written, ended}
use Rattle.sheet.proofs.AcceptedLines.{record_lines, not_written}
use Rattle.sheet.proofs.Results.{sheet_fault}
use Rattle.writer.specs.Text.{text_of}
use Rattle.writer.proofs.Solid.{text_of_lines, size_more}
use Rattle.writer.proofs.Backward.{text_length}

-- ---- an accepted sheet is ended, and has at most 65,536 bytes
pub sheet_whole : (s : List ℕ) (b : Book) → read_sheet s ≡ written b → whole_sheet s ≡ accept tt
sheet_whole s b e = by (whole_sheet s) refl
  where
    by : (v : Verdict (Unit {0})) → whole_sheet s ≡ v → whole_sheet s ≡ accept tt
    by (refuse k) q = absurd (not_written k 0 b (sym (sheet_fault s k q) ∙ e))
    by (accept u) q = q

pub whole_told : (s : List ℕ) → whole_sheet s ≡ accept tt → (length s ≤ 65536) × (ended s ≡ true)
unfolding whole_sheet
whole_told s e =
    let (l, r) = required (leb (length s) 65536) sheet_refusals.too_long (λ _. require (clean s) sheet_refusals.bad_byte >>= (λ _. require (ended s) sheet_refusals.not_ended)) tt e in
    let (c, t) = required (clean s) sheet_refusals.bad_byte (λ _. require (ended s) sheet_refusals.not_ended) tt r in
    (leb-true (length s) 65536 l, held (ended s) sheet_refusals.not_ended t)

-- ---- an ended sheet from its lines
ended_tail : (x z : ℕ) (zs : List ℕ) → ended (x ∷ z ∷ zs) ≡ true → ended (z ∷ zs) ≡ true
unfolding ended
ended_tail x z zs h =
    let a : suc (suc (length zs)) - 1 ≡ suc (length zs) = omega arith in
    let c : suc (length zs) - 1 ≡ length zs = omega arith in
    rw (ne_eqb (suc (length zs)) 0 (λ e. omega arith), c) (rw (ne_eqb (suc (suc (length zs))) 0 (λ e. omega arith), a) at h)

ended_one : (x : ℕ) → ended (x ∷ []) ≡ true → x ≡ LF
unfolding ended
ended_one x h = eqb-true x LF h

pub lines_whole : (s : List ℕ) → ended s ≡ true → text_of_lines (lines s) ≡ s
unfolding lines pieces
lines_whole [] h = refl
lines_whole (x ∷ []) h = rw (ended_one x h) refl
lines_whole (x ∷ z ∷ zs) h = by (eqb x LF) refl (pieces [] LF (z ∷ zs)) (lines_whole (z ∷ zs) (ended_tail x z zs h))
  where
    by : (t : Bool) → eqb x LF ≡ t → (ps : List (List ℕ)) → text_of_lines ps ≡ z ∷ zs → text_of_lines (piece_then t x ps) ≡ x ∷ z ∷ zs
    by true e ps q = ap (λ (l : List ℕ). LF ∷ l) q ∙ ap (λ (c : ℕ). c ∷ z ∷ zs) (sym (eqb-true x LF e))
    by false e [] q = let i = ap length q in absurd (omega arith)
    by false e (p ∷ ps) q = ap (λ (l : List ℕ). x ∷ l) q

-- ---- comments and CRs are left out
bare_length : (l : List ℕ) → length (bare l) ≤ length l
unfolding bare
bare_length [] = omega arith
bare_length (x ∷ []) = by (eqb x CR)
  where
    by : (t : Bool) → length (cond t [] (x ∷ [])) ≤ 1
    by true = omega arith
    by false = omega arith
bare_length (x ∷ z ∷ zs) = let h = bare_length (z ∷ zs) in omega arith

pub records_length : (ls : List (List ℕ)) → length (text_of_lines (record_lines ls)) ≤ length (text_of_lines ls)
records_length [] = omega arith
records_length (l ∷ ls) = by (begins HASH l) (records_length ls)
  where
    by : (t : Bool) → length (text_of_lines (record_lines ls)) ≤ length (text_of_lines ls) → length (text_of_lines (cond t (record_lines ls) (bare l ∷ record_lines ls))) ≤ length (text_of_lines (l ∷ ls))
    by true h = let a = size_more l ls in omega arith
    by false h =
        let a = size_more l ls in
        let c = size_more (bare l) (record_lines ls) in
        let d = bare_length l in
        omega arith

pub text_shorter : (s : List ℕ) (b : Book) → read_sheet s ≡ written b → length (text_of b) ≤ length s
text_shorter s b e =
    let (l, t) = whole_told s (sheet_whole s b e) in
    let a = text_length s b e in
    let c = records_length (lines s) in
    let d = ap length (lines_whole s t) in
    omega arith
