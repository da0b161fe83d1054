-- The fluents through accepted lines: a `fluent` line adds one, and each keeps its number and its name. Assumes nothing.
use mathlib.Core.Path.{◌≡◌, refl, ap, sym, ◌∙◌}
use mathlib.Core.Bool.{Bool, true, false, cond, true≢false}
use mathlib.Core.List.{List, [], ◌∷◌, ◌++◌}
use Prim.Native.Nat.{ℕ, ◌+◌, ◌<◌}
use native.Mathlib.Omega.{arith}
use lib.ListN.{length, get_or, drop, length-append, get_or-append}
use borrow.Author.Tests.{eqb-true}
use Rattle.chars.specs.Bytes.{text, TAB, HASH, begins}
use Rattle.chars.specs.Pieces.{grow, pieces, fields, bare}
use Rattle.chars.specs.Places.{same}
use Rattle.fields.specs.Book.{Book}
use Rattle.lines.specs.declared.Word.{Word}
use Rattle.lines.specs.declared.Word.TheVariants.{Fluent, Action, Rule, Start, Goal, Other}
use Rattle.lines.specs.Line.{Reading, word_of}
use Rattle.lines.specs.Reader.{read_lines, written}
use Rattle.sheet.proofs.AcceptedLines.{Accepted, fluent, action, rule, start, goal, accepted_text, Taken, comment, plain, line_taken, first_accepted, lines_end}

-- the fluents after an accepted line
abbrev pub after : List (List ℕ) → Word → List (List ℕ) → List (List ℕ)
after names Fluent fs = names ++ (get_or fs 0 [] ∷ [])
after names Action fs = names
after names Rule fs = names
after names Start fs = names
after names Goal fs = names
after names Other fs = names

pub fluents_after : (b next : Reading) (w : Word) (fs : List (List ℕ)) → Accepted b next fs w → next.book.names.fluents ≡ after b.book.names.fluents w fs
fluents_after b next w fs (fluent l n e) = ap (λ (x : Reading). x.book.names.fluents) e
fluents_after b next w fs (action l e) = ap (λ (x : Reading). x.book.names.fluents) e
fluents_after b next w fs (rule h s l n u t e) = ap (λ (x : Reading). x.book.names.fluents) e
fluents_after b next w fs (start s t e) = ap (λ (x : Reading). x.book.names.fluents) e
fluents_after b next w fs (goal s n t e) = ap (λ (x : Reading). x.book.names.fluents) e

-- a fluent keeps its number and its name
after_kept : (names : List (List ℕ)) (w : Word) (fs : List (List ℕ)) (i : ℕ) → i < length names → (i < length (after names w fs)) × (get_or (after names w fs) i [] ≡ get_or names i [])
after_kept names Fluent fs i l =
    let n = length-append names (get_or fs 0 [] ∷ []) in
    (omega arith, get_or-append names (get_or fs 0 [] ∷ []) [] i l)
after_kept names Action fs i l = (l, refl)
after_kept names Rule fs i l = (l, refl)
after_kept names Start fs i l = (l, refl)
after_kept names Goal fs i l = (l, refl)
after_kept names Other fs i l = (l, refl)

pub fluent_kept : (n : ℕ) (b : Reading) (last : Book) (ls : List (List ℕ)) → read_lines n b ls ≡ written last → (i : ℕ) → i < length b.book.names.fluents → get_or last.names.fluents i [] ≡ get_or b.book.names.fluents i []
fluent_kept n b last [] e i l = ap (λ (x : Reading). get_or x.book.names.fluents i []) (sym (lines_end n b last e))
fluent_kept n b last (t ∷ ls) e i l =
    let (next, h, r) = first_accepted n b last t ls e in
    let (m, k) = by next (line_taken b next t h) in
    fluent_kept (n + 1) next last ls r i m ∙ k
  where
    by : (next : Reading) → Taken b next t → (i < length next.book.names.fluents) × (get_or next.book.names.fluents i [] ≡ get_or b.book.names.fluents i [])
    by next (comment h e) = rw e (l, refl)
    by next (plain h e) =
        let w = word_of (get_or (fields (bare t)) 0 []) in
        let fs = drop 1 (fields (bare t)) in
        rw (fluents_after b next w fs (accepted_text b next (bare t) e)) (after_kept b.book.names.fluents w fs i l)

-- the word of a line, by whether its first field is `fluent`
pub word_fluent : (f : List ℕ) → same f (text "fluent") ≡ true → word_of f ≡ Fluent
unfolding word_of
word_fluent f e = rw e

pub after_other : (names : List (List ℕ)) (f : List ℕ) (fs : List (List ℕ)) → same f (text "fluent") ≡ false → after names (word_of f) fs ≡ names
unfolding word_of
after_other names f fs e = rw e (by (same f (text "action")) (same f (text "rule")) (same f (text "start")) (same f (text "goal")))
  where
    by : (t u v w : Bool) → after names (cond t Action (cond u Rule (cond v Start (cond w Goal Other)))) fs ≡ names
    by true u v w = refl
    by false true v w = refl
    by false false true w = refl
    by false false false true = refl
    by false false false false = refl

-- a comment's first field is not `fluent`
unlike : (fs : List (List ℕ)) → same (get_or (grow HASH fs) 0 []) (text "fluent") ≡ false
unfolding same
unlike [] = refl
unlike (f ∷ fs) = refl

pub comment_other : (l : List ℕ) → begins HASH l ≡ true → same (get_or (fields (bare l)) 0 []) (text "fluent") ≡ false
unfolding fields bare pieces same
comment_other [] h = absurd (true≢false (sym h))
comment_other (x ∷ []) h = rw (eqb-true x HASH h) refl
comment_other (x ∷ y ∷ ys) h = rw (eqb-true x HASH h) (unlike (pieces ([] ∷ []) TAB (bare (y ∷ ys))))
