-- `put_held` meets its contract: another line, a fluent that does not hold, a fluent that holds. Assumes nothing.
use mathlib.Core.Path.{◌≡◌, ap, sym, ◌∙◌}
use mathlib.Core.Bool.{Bool, true, false}
use mathlib.Core.List.{List, []}
use Prim.Native.Nat.{ℕ, ◌-◌, ◌≤◌}
use native.Mathlib.Omega.{arith}
use lib.ListN.{length, get_or, take, drop}
use lib.Seq.{slice, length-slice}
use Rattle.chars.specs.Bytes.{text}
use Rattle.chars.specs.Pieces.{fields, bare}
use Rattle.chars.specs.Places.{same}
use Rattle.chars.specs.Inner.{BareEnd, FieldEnd}
use Rattle.chars.proofs.Ends.{part_slice}
use Rattle.writer.specs.Inner.{held_piece}
use Rattle.writer.proofs.Filling.{gives_none, gives_as}
use Rattle.writer.proofs.LinePieces.{first_of, tail_of, held_other, held_not, held_here, next_other, next_fluent}
use Rattle.writer.proofs.put_held.Goals as goal

-- what the places share: the sheet, the line from a up to e, its first field up to q, and whether that is the word
module _ (s : List ℕ) (a e end q : ℕ) (t : Bool) (b : BareEnd s a e end) (f : FieldEnd s a end q) (w : t ≡ same (slice a q s) (text "fluent")) where
  word : (u : Bool) → t ≡ u → same (get_or (fields (bare (slice a e s))) 0 []) (text "fluent") ≡ u
  word u h = ap (λ (g : List ℕ). same g (text "fluent")) (first_of s a e end q b f) ∙ sym w ∙ h

  -- the tab and the name
  piece : e ≤ length s → t ≡ true → drop 6 (bare (slice a e s)) ≡ slice q end s
  piece l h = tail_of s a e end q b f (text "fluent") l (sym w ∙ h)

pub returns-then-not-is_word : goal.returns-then-not-is_word
returns-then-not-is_word c =
    let a = c.args in
    let s = a.s.now in
    let o = a.out.now in
    let st = a.start.0 in
    let this = slice a.a a.e s in
    let end = c.bare_end-end.result in
    let q = c.field_end-q.result in
    let w = word s a.a a.e end q c.is_word.result c.bare_end-end.ensures c.field_end-q.ensures c.is_word.ensures false (c.if-not-is_word.true) in
    let p = held_other a.k st this w in
    let n = ap length p in
    record { puts = (omega arith, gives_as o o [] (held_piece a.k st this) a.at a.at (sym p) (gives_none o a.at)); fluent_value = (sym (next_other a.k st this w), omega arith) }

pub returns-then-not-holds : goal.returns-then-not-holds
returns-then-not-holds c =
    let a = c.args in
    let s = a.s.now in
    let o = a.out.now in
    let st = a.start.0 in
    let this = slice a.a a.e s in
    let end = c.bare_end-end.result in
    let q = c.field_end-q.result in
    let w = word s a.a a.e end q c.is_word.result c.bare_end-end.ensures c.field_end-q.ensures c.is_word.ensures true (c.if-not-is_word.false) in
    let p = held_not a.k st this (sym c.holds.ensures ∙ c.if-not-holds.true) in
    let n = ap length p in
    let x = next_fluent a.k st this w in
    record { puts = (omega arith, gives_as o o [] (held_piece a.k st this) a.at a.at (sym p) (gives_none o a.at)); fluent_value = (omega arith, omega arith) }

pub put-r-requires : goal.put-r-requires
put-r-requires c =
    let a = c.args in
    let s = a.s.now in
    let o = a.out.now in
    let st = a.start.0 in
    let this = slice a.a a.e s in
    let end = c.bare_end-end.result in
    let q = c.field_end-q.result in
    let v = c.if-not-is_word.false in
    let w = word s a.a a.e end q c.is_word.result c.bare_end-end.ensures c.field_end-q.ensures c.is_word.ensures true v in
    let p = held_here a.k st this w (sym c.holds.ensures ∙ c.if-not-holds.false) ∙ piece s a.a a.e end q c.is_word.result c.bare_end-end.ensures c.field_end-q.ensures c.is_word.ensures c.requires.a_le_e.1 v in
    let n = ap length p in
    let i = c.field_end-q.ensures.within in
    let j = c.bare_end-end.ensures.within in
    let k = c.requires.a_le_e.1 in
    let m = length-slice q end s (omega arith) in
    let r = c.requires.s_in_bounds in
    let w : length (take (end - q) (drop q s)) ≡ end - q = ap length (part_slice s q end (omega arith) (omega arith)) ∙ m in
    omega arith

pub returns : goal.returns
returns c =
    let a = c.args in
    let s = a.s.now in
    let o = a.out.now in
    let st = a.start.0 in
    let this = slice a.a a.e s in
    let end = c.bare_end-end.result in
    let q = c.field_end-q.result in
    let v = c.if-not-is_word.false in
    let w = word s a.a a.e end q c.is_word.result c.bare_end-end.ensures c.field_end-q.ensures c.is_word.ensures true v in
    let p = held_here a.k st this w (sym c.holds.ensures ∙ c.if-not-holds.false) ∙ piece s a.a a.e end q c.is_word.result c.bare_end-end.ensures c.field_end-q.ensures c.is_word.ensures c.requires.a_le_e.1 v in
    let n = ap length p in
    let i = c.field_end-q.ensures.within in
    let j = c.bare_end-end.ensures.within in
    let k = c.requires.a_le_e.1 in
    let m = length-slice q end s (omega arith) in
    let x = c.put-r in
    let r = x.ensures.0 in
    let y = next_fluent a.k st this w in
    let w : take (end - q) (drop q s) ≡ slice q end s = part_slice s q end (omega arith) (omega arith) in
    let v = ap length w in
    record { puts = (omega arith, gives_as o x.new.out (take (end - q) (drop q s)) (held_piece a.k st this) a.at x.result (w ∙ sym p) x.ensures.1); fluent_value = (omega arith, omega arith) }
