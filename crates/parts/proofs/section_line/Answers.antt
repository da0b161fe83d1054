-- `section_line` meets its contract. Assumes nothing.
use mathlib.Core.Path.{◌≡◌, ap, sym, ◌∙◌}
use mathlib.Core.List.{List, [], ◌∷◌, ◌++◌}
use Prim.Native.Nat.{ℕ, ◌+◌, ◌≤◌, ◌<◌}
use native.Mathlib.Omega.{arith}
use lib.ListN.{length, length-append}
use lib.Seq.{slice}
use Rattle.chars.specs.Inner.{BareEnd, FieldEnd}
use Rattle.parts.specs.Parts.{Lies}
use Rattle.parts.proofs.Slices.{slice_first, slice_behind}
use Rattle.parts.proofs.Behind.{behind_here, behind_other}
use Rattle.parts.proofs.PartLists.{grows_none, grows_as}
use Rattle.parts.proofs.section_line.Goals as goal

-- the part that the line gives: s the sheet behind `base` bytes, a to e the line, its first field up to q
module _ (s : List ℕ) (base a e end q : ℕ) (b : BareEnd s a e end) (f : FieldEnd s a end q) (k : e ≤ length s) where
  within : end ≤ length s
  within = let i = b.within in omega arith

  lies : (cut : ℕ) (y z : List ℕ) → length y ≡ base → (cut < base + length s → cut ≤ base) → Lies cut (length (y ++ (s ++ z))) (base + q) (base + end)
  lies cut y z l h =
      let i = f.within in
      let j = within in
      let n = length-append y (s ++ z) in
      let m = length-append s z in
      record { ordered = omega arith; within = omega arith; whole = λ g. let v = h (omega arith) in omega arith }

  part : (y z : List ℕ) → length y ≡ base → slice (base + q) (base + end) (y ++ (s ++ z)) ≡ slice q end s
  part y z l = ap (λ (n : ℕ). slice (n + q) (n + end) (y ++ (s ++ z))) (sym l) ∙ slice_behind y (s ++ z) q end ∙ slice_first s z q end within

pub push-requires : goal.push-requires
push-requires c =
    let a = c.args in
    let s = a.s.now in
    let end = c.bare_end-end.result in
    let q = c.field_end-q.result in
    let B = c.bare_end-end.ensures in
    let F = c.field_end-q.ensures in
    let k = c.requires.a_le_e.1 in
    let p = behind_here s a.word.now a.a a.e end q B F k (sym c.is_word.ensures ∙ c.if-is_word.true) in
    let n = ap length p in
    omega (arith, c.requires.s_in_bounds)

pub returns-then-is_word : goal.returns-then-is_word
returns-then-is_word c =
    let a = c.args in
    let s = a.s.now in
    let end = c.bare_end-end.result in
    let q = c.field_end-q.result in
    let B = c.bare_end-end.ensures in
    let F = c.field_end-q.ensures in
    let k = c.requires.a_le_e.1 in
    let p = behind_here s a.word.now a.a a.e end q B F k (sym c.is_word.ensures ∙ c.if-is_word.true) in
    let n = ap length p in
    let x = c.push in
    record {
      by_index = λ cut y z l w. grows_as cut (y ++ (s ++ z)) _ _ _ _ _ _ (ap (λ (x : List ℕ). x ∷ []) (part s a.base a.a a.e end q B F k y z l) ∙ sym p) (x.ensures.by_index cut (y ++ (s ++ z)) (lies s a.base a.a a.e end q B F k cut y z l w));
      value = omega (arith, x.ensures.value);
    }

pub returns : goal.returns
returns c =
    let a = c.args in
    let s = a.s.now in
    let end = c.bare_end-end.result in
    let q = c.field_end-q.result in
    let B = c.bare_end-end.ensures in
    let F = c.field_end-q.ensures in
    let k = c.requires.a_le_e.1 in
    let p = behind_other s a.word.now a.a a.e end q B F (sym c.is_word.ensures ∙ c.if-is_word.false) in
    let n = ap length p in
    record { by_index = λ cut y z l w. grows_as cut (y ++ (s ++ z)) _ _ _ _ _ _ (sym p) (grows_none cut (y ++ (s ++ z)) a.list.now a.n); value = omega arith }
