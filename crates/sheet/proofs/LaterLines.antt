-- Record lines that come later: below a `rule` they keep the names, and below the `goal` there is none. Assumes nothing.
use mathlib.Core.Path.{◌≡◌, refl, ap, sym, ◌∙◌}
use mathlib.Core.List.{List, [], ◌∷◌}
use Prim.Native.Nat.{ℕ, ◌≤◌}
use native.Mathlib.Omega.{arith}
use lib.ListN.{get_or, drop}
use Rattle.chars.specs.Pieces.{fields}
use Rattle.lines.specs.declared.Word.{Word}
use Rattle.lines.specs.Line.{Reading, row, word_of}
use Rattle.sheet.proofs.AcceptedLines.{Accepted, fluent, action, rule, start, goal, accepted_text, text_in_order, AllRead, done, more}

-- after an accepted line no word before its own in the row may come
pub stage_after : (b next : Reading) (w : Word) (fs : List (List ℕ)) → Accepted b next fs w → row w ≤ next.stage
stage_after b next w fs (fluent l n e) = omega arith
stage_after b next w fs (action l e) = let s = ap (λ (x : Reading). x.stage) e in omega arith
stage_after b next w fs (rule h s l n u t e) = let s = ap (λ (x : Reading). x.stage) e in omega arith
stage_after b next w fs (start s t e) = let s = ap (λ (x : Reading). x.stage) e in omega arith
stage_after b next w fs (goal s n t e) = let s = ap (λ (x : Reading). x.stage) e in omega arith

-- an accepted line that is no `fluent` and no `action` keeps the names, and so do the lines below it
pub line_names : (b next : Reading) (w : Word) (fs : List (List ℕ)) → 2 ≤ row w → Accepted b next fs w → next.book.names ≡ b.book.names
line_names b next w fs h (fluent l n e) = absurd (omega arith)
line_names b next w fs h (action l e) = absurd (omega arith)
line_names b next w fs h (rule k s l n u t e) = ap (λ (x : Reading). x.book.names) e
line_names b next w fs h (start s t e) = ap (λ (x : Reading). x.book.names) e
line_names b next w fs h (goal s n t e) = ap (λ (x : Reading). x.book.names) e

pub names_kept : (b last : Reading) (ls : List (List ℕ)) → 2 ≤ b.stage → AllRead last b ls → last.book.names ≡ b.book.names
names_kept b last [] h (done e) = ap (λ (x : Reading). x.book.names) (sym e)
names_kept b last (l ∷ ls) h (more next t r) =
    let w = word_of (get_or (fields l) 0 []) in
    let a = accepted_text b next l t in
    let (i, j) = text_in_order b next l t in
    let k = stage_after b next w (drop 1 (fields l)) a in
    names_kept next last ls (omega arith) r ∙ line_names b next w (drop 1 (fields l)) (omega arith) a

-- below the `goal` there is no record line
pub none_below : (b last : Reading) (ls : List (List ℕ)) → b.stage ≡ 5 → AllRead last b ls → (ls ≡ []) × (last ≡ b)
none_below b last [] h (done e) = (refl, sym e)
none_below b last (l ∷ ls) h (more next t r) =
    let (i, j) = text_in_order b next l t in
    absurd (omega arith)
