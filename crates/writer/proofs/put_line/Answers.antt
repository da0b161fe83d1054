-- `put_line` meets its contract: a comment, the `start` line, any other line. Assumes nothing.
use mathlib.Core.Path.{◌≡◌, ap, sym, ◌∙◌}
use mathlib.Core.Bool.{Bool, true, false}
use mathlib.Core.List.{List, [], ◌∷◌, ◌++◌}
use Prim.Native.Nat.{ℕ, ◌+◌, ◌-◌, ◌≤◌}
use native.Mathlib.Omega.{arith}
use lib.ListN.{length, get_or, take, drop, length-append}
use lib.Seq.{slice, length-slice}
use Rattle.chars.specs.Bytes.{text, LF, HASH, begins}
use Rattle.chars.specs.Pieces.{lines, fields, bare}
use Rattle.chars.specs.Places.{same}
use Rattle.chars.specs.Inner.{BareEnd, FieldEnd}
use Rattle.chars.proofs.Ends.{part_slice}
use Rattle.writer.specs.Inner.{start_bytes, line_piece}
use Rattle.writer.proofs.Filling.{gives_none, gives_then, gives_as}
use Rattle.writer.proofs.LinePieces.{first_of, line_comment, line_start, line_other}
use Rattle.writer.proofs.put_line.Goals as goal

-- what the places share: the sheet, the line from a up to e, which is no comment, its first field up to q, and whether that is the word
module _ (s : List ℕ) (a e end q : ℕ) (st : ℕ) (t : Bool) (n : begins HASH (slice a e s) ≡ false) (b : BareEnd s a e end) (f : FieldEnd s a end q) (w : t ≡ same (slice a q s) (text "start")) where
  word : (u : Bool) → t ≡ u → same (get_or (fields (bare (slice a e s))) 0 []) (text "start") ≡ u
  word u h = ap (λ (g : List ℕ). same g (text "start")) (first_of s a e end q b f) ∙ sym w ∙ h

  is_start : t ≡ true → line_piece st (lines s) (slice a e s) ≡ start_bytes st (lines s)
  is_start h = line_start st (lines s) (slice a e s) n (word true h)

  is_other : t ≡ false → line_piece st (lines s) (slice a e s) ≡ slice a end s ++ (LF ∷ [])
  is_other h = line_other st (lines s) (slice a e s) n (word false h) ∙ ap (λ (l : List ℕ). l ++ (LF ∷ [])) b.cut

  part : e ≤ length s → length (slice a end s) ≡ end - a
  part l =
      let i = b.within in
      length-slice a end s (omega arith)

  size : e ≤ length s → t ≡ false → length (line_piece st (lines s) (slice a e s)) ≡ end - a + 1
  size l h =
      let i = part l in
      let m = length-append (slice a end s) (LF ∷ []) in
      let k = ap length (is_other h) in
      omega arith

-- the part that is copied
copied : (s : List ℕ) (a e : ℕ) → a ≤ e → e ≤ length s → take (e - a) (drop a s) ≡ slice a e s
copied s a e o l = part_slice s a e o l

pub returns-then-is_comment : goal.returns-then-is_comment
returns-then-is_comment c =
    let a = c.args in
    let s = a.s.now in
    let o = a.out.now in
    let st = a.start.0 in
    let all = lines s in
    let this = slice a.a a.e s in
    let p = line_comment st all this (sym c.is_comment.ensures ∙ c.if-is_comment.true) in
    let n = ap length p in
    (omega arith, gives_as o o [] (line_piece st all this) a.at a.at (sym p) (gives_none o a.at))

pub put_start-requires : goal.put_start-requires
put_start-requires c =
    let a = c.args in
    let s = a.s.now in
    let o = a.out.now in
    let st = a.start.0 in
    let all = lines s in
    let this = slice a.a a.e s in
    let end = c.bare_end-end.result in
    let q = c.field_end-q.result in
    let n = ap length (is_start s a.a a.e end q st c.is_word.result (sym c.is_comment.ensures ∙ c.if-is_comment.false) c.bare_end-end.ensures c.field_end-q.ensures c.is_word.ensures c.if-is_word.true) in
    let p = c.requires.s_in_bounds in
    omega arith

pub returns-then-is_word : goal.returns-then-is_word
returns-then-is_word c =
    let a = c.args in
    let s = a.s.now in
    let o = a.out.now in
    let st = a.start.0 in
    let all = lines s in
    let this = slice a.a a.e s in
    let end = c.bare_end-end.result in
    let q = c.field_end-q.result in
    let x = c.put_start in
    let p = is_start s a.a a.e end q st c.is_word.result (sym c.is_comment.ensures ∙ c.if-is_comment.false) c.bare_end-end.ensures c.field_end-q.ensures c.is_word.ensures c.if-is_word.true in
    let n = ap length p in
    let i = x.ensures.0 in
    (omega arith, gives_as o x.new.out (start_bytes st all) (line_piece st all this) a.at x.result (sym p) x.ensures.1)

pub put-r-requires : goal.put-r-requires
put-r-requires c =
    let a = c.args in
    let s = a.s.now in
    let o = a.out.now in
    let st = a.start.0 in
    let all = lines s in
    let this = slice a.a a.e s in
    let end = c.bare_end-end.result in
    let q = c.field_end-q.result in
    let n = size s a.a a.e end q st c.is_word.result (sym c.is_comment.ensures ∙ c.if-is_comment.false) c.bare_end-end.ensures c.field_end-q.ensures c.is_word.ensures c.requires.a_le_e.1 c.if-is_word.false in
    let p = c.requires.s_in_bounds in
    let i = c.bare_end-end.ensures.within in
    let j = c.bare_end-end.ensures.from in
    let k = c.requires.a_le_e.1 in
    let w = ap length (copied s a.a end (omega arith) (omega arith)) in
    let v = length-slice a.a end s (omega arith) in
    omega arith

pub put-requires : goal.put-requires
put-requires c =
    let a = c.args in
    let s = a.s.now in
    let o = a.out.now in
    let st = a.start.0 in
    let all = lines s in
    let this = slice a.a a.e s in
    let end = c.bare_end-end.result in
    let q = c.field_end-q.result in
    let n = size s a.a a.e end q st c.is_word.result (sym c.is_comment.ensures ∙ c.if-is_comment.false) c.bare_end-end.ensures c.field_end-q.ensures c.is_word.ensures c.requires.a_le_e.1 c.if-is_word.false in
    let p = c.requires.s_in_bounds in
    let x = c.put-r in
    let i = x.ensures.0 in
    let j = x.auto.out in
    let k = part s a.a a.e end q st c.is_word.result (sym c.is_comment.ensures ∙ c.if-is_comment.false) c.bare_end-end.ensures c.field_end-q.ensures c.is_word.ensures c.requires.a_le_e.1 in
    let f = c.bare_end-end.ensures.from in
    let g = c.bare_end-end.ensures.within in
    let h = c.requires.a_le_e.1 in
    let w = ap length (copied s a.a end (omega arith) (omega arith)) in
    omega arith

pub returns : goal.returns
returns c =
    let a = c.args in
    let s = a.s.now in
    let o = a.out.now in
    let st = a.start.0 in
    let all = lines s in
    let this = slice a.a a.e s in
    let end = c.bare_end-end.result in
    let q = c.field_end-q.result in
    let n = size s a.a a.e end q st c.is_word.result (sym c.is_comment.ensures ∙ c.if-is_comment.false) c.bare_end-end.ensures c.field_end-q.ensures c.is_word.ensures c.requires.a_le_e.1 c.if-is_word.false in
    let p = c.requires.s_in_bounds in
    let z = c.put in
    let x = c.put-r in
    let k = part s a.a a.e end q st c.is_word.result (sym c.is_comment.ensures ∙ c.if-is_comment.false) c.bare_end-end.ensures c.field_end-q.ensures c.is_word.ensures c.requires.a_le_e.1 in
    let i = x.ensures.0 in
    let j = z.ensures.0 in
    let f = c.bare_end-end.ensures.from in
    let g = c.bare_end-end.ensures.within in
    let h = c.requires.a_le_e.1 in
    let w = copied s a.a end (omega arith) (omega arith) in
    let v = ap length w in (
      omega arith,
      gives_as o z.new.out (slice a.a end s ++ (LF ∷ [])) (line_piece st all this) a.at z.result (sym (is_other s a.a a.e end q st c.is_word.result (sym c.is_comment.ensures ∙ c.if-is_comment.false) c.bare_end-end.ensures c.field_end-q.ensures c.is_word.ensures c.if-is_word.false))
          (gives_then o x.new.out z.new.out (slice a.a end s) (LF ∷ []) a.at x.result z.result (gives_as o x.new.out _ (slice a.a end s) a.at x.result w x.ensures.1) z.ensures.1),
    )
