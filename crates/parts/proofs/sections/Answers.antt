-- `sections` meets its contract. Assumes nothing.
use mathlib.Core.Path.{◌≡◌, refl, sym, ap, ◌∙◌}
use mathlib.Core.List.{List, [], ◌∷◌, ◌++◌}
use Prim.Native.Nat.{ℕ, ◌+◌, ◌≤◌}
use native.Mathlib.Omega.{arith}
use lib.ListN.{length, drop, length-append}
use lib.Seq.{slice}
use Rattle.chars.specs.Pieces.{lines}
use Rattle.chars.proofs.Ends.{lines_gone}
use Rattle.parts.specs.Parts.{behind_word, section}
use Rattle.parts.proofs.PartLists.{grows_none, grows_as, grows_then}
use Rattle.parts.proofs.Behind.{section_more, section_none}
use Rattle.parts.proofs.sections.Goals as goal

-- the parts from a line on, by the line
cut_line : (w l : List ℕ) (ls ms : List (List ℕ)) → ms ≡ l ∷ ls → section w ms ≡ behind_word w l ++ section w ls
cut_line w l ls ms e = ap (section w) e ∙ section_more w l ls

pub loop-a-init : goal.loop-a-init
loop-a-init c = (omega arith, refl, refl, λ cut b z k w l q g. g)

pub section_line-n-requires : goal.section_line-n-requires
section_line-n-requires c =
    let l = c.loop-a in
    let a = c.args in
    let s = a.s.now in
    let w = a.word.now in
    let f = c.line_end-e in
    let t = slice l.a f.result s in
    let ls = lines (drop (f.result + 1) s) in
    let n = ap length (cut_line w t ls (lines (drop l.a s)) f.ensures.cut) ∙ length-append (behind_word w t) (section w ls) in
    let p = c.requires.s_in_bounds in
    let i = l.invariant.1 in
    let j = l.invariant.2 in
    record { a_le_e = (f.ensures.from, f.ensures.within, c.requires.base_bound.0, c.requires.base_bound.1); s_in_bounds = omega arith }

pub loop-a-preserved : goal.loop-a-preserved
loop-a-preserved c =
    let x = c.section_line-n in
    let f = c.line_end-e in
    let l = c.loop-a in
    let a = c.args in
    let s = a.s.now in
    let w = a.word.now in
    let t = slice l.a f.result s in
    let ls = lines (drop (f.result + 1) s) in
    let e = cut_line w t ls (lines (drop l.a s)) f.ensures.cut in
    let n = ap length e ∙ length-append (behind_word w t) (section w ls) in
    let u = f.ensures.within in
    let b₀ : length a.s.now ≤ 65536 = c.requires.base_bound.1 in
    let m = x.ensures.value in
    let i = l.invariant.1 in (
      omega arith,
      omega arith,
      x.auto.list ∙ l.invariant.2,
      λ cut b z k v o q g. l.invariant.3 cut b z k v o q
          (grows_as cut (b ++ (s ++ z)) l.list o l.n q (behind_word w t ++ section w ls) _ (sym e)
          (grows_then cut (b ++ (s ++ z)) l.list x.new.list o l.n x.result q (behind_word w t) (section w ls) (x.ensures.by_index cut b z k v) g)),
    )

pub returns : goal.returns
returns c =
    λ cut b z k v.
    let l = c.loop-a in
    let a = c.args in
    let s = a.s.now in
    let e = ap (section a.word.now) (lines_gone s l.a c.loop-a-test.false) ∙ section_none a.word.now in
    l.invariant.3 cut b z k v l.list l.n (grows_as cut (b ++ (s ++ z)) l.list l.list l.n l.n [] _ (sym e) (grows_none cut (b ++ (s ++ z)) l.list l.n))
