-- The part of the sheet that a fluent's span names is the fluent's name in the book. Assumes nothing.
use mathlib.Core.Path.{◌≡◌, refl, ap, sym, ◌∙◌}
use mathlib.Core.Bool.{Bool, true, false}
use mathlib.Core.List.{List, [], ◌∷◌, ◌++◌}
use Prim.Native.Nat.{ℕ, zero, suc, ◌+◌, ◌-◌, ◌≤◌, ◌<◌}
use native.Mathlib.Omega.{arith}
use native.Mathlib.Decide.{dec_lt}
use lib.ListN.{length, get_or, take, drop, length-append}
use lib.Seq.{slice, length-slice, get_or-append_seam}
use Rattle.chars.specs.Bytes.{text}
use Rattle.chars.specs.Pieces.{lines, fields, bare}
use Rattle.chars.specs.Places.{same}
use Rattle.chars.specs.Inner.{fields_from, FieldEnd, LineEnd, BareEnd}
use Rattle.chars.proofs.Ends.{line_end, field_end, lines_gone, part_slice}
use Rattle.chars.proofs.Fields.{one_field, some_field, fields_first}
use Rattle.chars.proofs.Bare.{bare_end}
use Rattle.fields.specs.Book.{Book}
use Rattle.lines.specs.declared.Word.{Word}
use Rattle.lines.specs.declared.Word.TheVariants.{Fluent}
use Rattle.lines.specs.Line.{Reading, empty, word_of, plain_line}
use Rattle.lines.specs.Reader.{read_lines, read_sheet, refused, written, Outcome}
use Rattle.lines.proofs.LineVerdicts.{plain_fields}
use Rattle.naming.specs.declared.Span.{Span}
use Rattle.naming.specs.Spans.{part_of, name_in, field_span}
use Rattle.naming.proofs.Spans.{name_passed, name_later, name_here}
use Rattle.sheet.specs.FluentName.{name_span}
use Rattle.sheet.proofs.AcceptedLines.{Accepted, fluent, action, rule, start, goal, accepted_line, Taken, comment, plain, line_taken, first_accepted, lines_end, sheet_accepted}
use Rattle.sheet.proofs.FluentsKept.{after, fluents_after, fluent_kept, word_fluent, after_other, comment_other}
use Rattle.sheet.proofs.Spans.{span_refused, span_high, span_fluent}

-- the span lies in the sheet, and its part is the name
pub record Stands (s : List ℕ) (p : Span) (name : List ℕ) : Type 0 where
  pub within : p.at + p.len ≤ length s
  pub part : part_of s p ≡ name

field_stands : (s : List ℕ) (q e : ℕ) → e ≤ length s → length (fields_from (q + 1) e s) ≡ 1 → Stands s (field_span s q e) (get_or (fields_from (q + 1) e s) 0 [])
field_stands s q e h n =
    let o = one_field s (q + 1) e h n in
    let l = some_field s (q + 1) e (omega arith) in
    let m = length-slice (q + 1) e s h in
    let i : length (get_or (fields_from (q + 1) e s) 0 []) ≡ e - (q + 1) = ap (λ (x : List (List ℕ)). length (get_or x 0 [])) o ∙ m in
    record {
      within = omega arith;
      part = ap (λ (k : ℕ). take k (drop (q + 1) s)) i ∙ part_slice s (q + 1) e l h ∙ sym (ap (λ (x : List (List ℕ)). get_or x 0 []) o);
    }

-- the name of fluent k behind those of b, in the lines from `at` on
abbrev Named : List ℕ → Reading → Book → ℕ → ℕ → List (List ℕ) → Type 0
Named s b last at k ls = Stands s (name_in at k ls) (get_or last.names.fluents (length b.book.names.fluents + k) [])

module _ (s : List ℕ) (last : Book) where
  -- one line: what is named behind it is named with it
  module _ (n at e end q k : ℕ) (b : Reading) (E : LineEnd s at e) (B : BareEnd s at e end) (F : FieldEnd s at end q)
      (later : (next : Reading) (j : ℕ) → read_lines (n + 1) next (lines (drop (e + 1) s)) ≡ written last → length next.book.names.fluents + j < length last.names.fluents → Named s next last (e + 1) j (lines (drop (e + 1) s)))
      (l : length b.book.names.fluents + k < length last.names.fluents) where
    abbrev fs : List (List ℕ)
    fs = fields_from (q + 1) end s

    abbrev ls : List (List ℕ)
    ls = lines (drop (e + 1) s)

    other : (next : Reading) → next.book.names.fluents ≡ b.book.names.fluents → read_lines (n + 1) next ls ≡ written last → same (slice at q s) (text "fluent") ≡ false → Named s b last at k (slice at e s ∷ ls)
    other next f r t =
        let z = ap length f in
        let i = later next k r (omega arith) in
        let x = rw f at i in
        rw (name_passed s at e end q k ls B F E.within t) x

    fluent_line : (next : Reading) → next.book.names.fluents ≡ b.book.names.fluents ++ (get_or fs 0 [] ∷ []) → length fs ≡ 1 → read_lines (n + 1) next ls ≡ written last → same (slice at q s) (text "fluent") ≡ true → (k : ℕ) → length b.book.names.fluents + k < length last.names.fluents → Named s b last at k (slice at e s ∷ ls)
    fluent_line next f one r t zero l =
        let z = ap length f ∙ length-append b.book.names.fluents (get_or fs 0 [] ∷ []) in
        let y : length b.book.names.fluents + 0 ≡ length b.book.names.fluents = omega arith in
        let g = fluent_kept (n + 1) next last ls r (length b.book.names.fluents) (omega arith) in
        let h = g ∙ ap (λ (x : List (List ℕ)). get_or x (length b.book.names.fluents) []) f ∙ get_or-append_seam b.book.names.fluents (get_or fs 0 []) [] [] in
        rw (name_here s at e end q 0 ls B F E.within t refl, y, h) (field_stands s q end (omega (arith, B.within, E.within)) one)
    fluent_line next f one r t (suc j) l =
        let z = ap length f ∙ length-append b.book.names.fluents (get_or fs 0 [] ∷ []) in
        let y : length next.book.names.fluents + j ≡ length b.book.names.fluents + suc j = omega arith in
        let v : suc j - 1 ≡ j = omega arith in
        let i = later next j r (omega arith) in
        let x = rw y at i in
        rw (name_later s at e end q (suc j) ls B F E.within t (λ d. omega arith), v) x

    line_named : read_lines n b (slice at e s ∷ ls) ≡ written last → Named s b last at k (slice at e s ∷ ls)
    line_named h =
        let (next, a, r) = first_accepted n b last (slice at e s) ls h in
        taken next r (line_taken b next (slice at e s) a)
      where
        -- the line's first field
        first : get_or (fields (bare (slice at e s))) 0 [] ≡ slice at q s
        first = ap (λ (l : List ℕ). get_or (fields l) 0 []) B.cut ∙ ap (λ (fs : List (List ℕ)). get_or fs 0 []) (fields_first s at end q B.from F)

        one : (next : Reading) (w : Word) → Accepted b next fs w → w ≡ Fluent → length fs ≡ 1
        one next w (fluent l n e) q = n
        one next w (action l e) q = let z : ◌≡◌ {A = ℕ} 0 1 = cc in absurd (omega arith)
        one next w (rule h s l n u t e) q = let z : ◌≡◌ {A = ℕ} 0 1 = cc in absurd (omega arith)
        one next w (start s t e) q = let z : ◌≡◌ {A = ℕ} 0 1 = cc in absurd (omega arith)
        one next w (goal s n t e) q = let z : ◌≡◌ {A = ℕ} 0 1 = cc in absurd (omega arith)

        by : (next : Reading) → read_lines (n + 1) next ls ≡ written last → Accepted b next fs (word_of (slice at q s)) → (t : Bool) → same (slice at q s) (text "fluent") ≡ t → Named s b last at k (slice at e s ∷ ls)
        by next r a true t =
            let w = word_fluent (slice at q s) t in
            fluent_line next (fluents_after b next (word_of (slice at q s)) fs a ∙ ap (λ (x : Word). after b.book.names.fluents x fs) w) (one next (word_of (slice at q s)) a w) r t k l
        by next r a false t = other next (fluents_after b next (word_of (slice at q s)) fs a ∙ after_other b.book.names.fluents (slice at q s) fs t) r t

        taken : (next : Reading) → read_lines (n + 1) next ls ≡ written last → Taken b next (slice at e s) → Named s b last at k (slice at e s ∷ ls)
        taken next r (comment h u) = other next (ap (λ (x : Reading). x.book.names.fluents) u) r (ap (λ (f : List ℕ). same f (text "fluent")) (sym first) ∙ comment_other (slice at e s) h)
        taken next r (plain h a) =
            let p = ap (plain_line b) (sym B.cut) ∙ a in
            by next r (accepted_line b next fs (word_of (slice at q s)) (sym (plain_fields b s at end q B.from F) ∙ p)) (same (slice at q s) (text "fluent")) refl

  -- past the last line there is no fluent more
  gone : (n at k : ℕ) (b : Reading) → length s ≤ at → read_lines n b (lines (drop at s)) ≡ written last → length b.book.names.fluents + k < length last.names.fluents → Named s b last at k (lines (drop at s))
  gone n at k b h e l =
      let x = rw (lines_gone s at h) at e in
      let y = ap (λ (a : Reading). length a.book.names.fluents) (lines_end n b last x) in
      absurd (omega arith)

  line_from : (n at k : ℕ) (b : Reading) → at < length s → read_lines n b (lines (drop at s)) ≡ written last → length b.book.names.fluents + k < length last.names.fluents
      → ((e : ℕ) → at ≤ e → (next : Reading) (j : ℕ) → read_lines (n + 1) next (lines (drop (e + 1) s)) ≡ written last → length next.book.names.fluents + j < length last.names.fluents → Named s next last (e + 1) j (lines (drop (e + 1) s)))
      → Named s b last at k (lines (drop at s))
  line_from n at k b p h l later = by _ (line_end s at p)
    where
      by : (e : ℕ) → LineEnd s at e → Named s b last at k (lines (drop at s))
      by e E =
          let x = rw E.cut at h in
          let (z, B) = bare_end s at e E.from E.within in
          rw E.cut (line_named n at e z _ k b E B (field_end s at z B.from (omega (arith, B.within, E.within))) (later e E.from) l x)

  -- the lines from `at` on
  named_from : (m n at k : ℕ) (b : Reading) → length s ≤ at + m → read_lines n b (lines (drop at s)) ≡ written last → length b.book.names.fluents + k < length last.names.fluents → Named s b last at k (lines (drop at s))
  named_from zero n at k b h e l = gone n at k b (omega arith) e l
  named_from (suc m) n at k b h e l = elim (dec_lt at (length s)) [
    | yes p ↦ line_from n at k b p e l (λ r i next j d t. named_from m (n + 1) (r + 1) j next (omega arith) d t)
    | no p ↦ gone n at k b (omega arith) e l
  ]

-- the part of an accepted sheet that a fluent's span names is the fluent's name, and lies in the sheet
pub name_stands : (s : List ℕ) (b : Book) (k : ℕ) → read_sheet s ≡ written b → k < length b.names.fluents → Stands s (name_span s k) (get_or b.names.fluents k [])
name_stands s b k e l =
    let z : 0 + k ≡ k = omega arith in
    let x = named_from s b (length s) 1 0 k empty (omega arith) (sheet_accepted s b e) (omega arith) in
    let y = rw z at x in
    rw (span_fluent s k b e l) y

pub name_is : (s : List ℕ) (b : Book) (k : ℕ) → read_sheet s ≡ written b → k < length b.names.fluents → part_of s (name_span s k) ≡ get_or b.names.fluents k []
name_is s b k e l = (name_stands s b k e l).part

-- whatever the sheet and the number, the span lies in the sheet
pub span_within : (s : List ℕ) (k : ℕ) → (name_span s k).at + (name_span s k).len ≤ length s
span_within s k = by (read_sheet s) refl
  where
    by : (o : Outcome) → read_sheet s ≡ o → (name_span s k).at + (name_span s k).len ≤ length s
    by (refused n i) e = rw (span_refused s k n i e) (omega arith)
    by (written b) e = below b e (dec_lt k (length b.names.fluents))
      where
        below : (b : Book) → read_sheet s ≡ written b → Dec (k < length b.names.fluents) → (name_span s k).at + (name_span s k).len ≤ length s
        below b e (yes l) = (name_stands s b k e l).within
        below b e (no l) = rw (span_high s k b e (omega arith)) (omega arith)
