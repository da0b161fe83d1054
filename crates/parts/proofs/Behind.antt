-- What stands behind a word in lines, line by line. Assumes nothing.
use Prim.Native.Nat.{ℕ, ◌≤◌}
use mathlib.Core.Path.{◌≡◌, refl, ap, ◌∙◌}
use mathlib.Core.Bool.{Bool, true, false, cond}
use mathlib.Core.List.{List, [], ◌∷◌, ◌++◌}
use lib.ListN.{length, get_or, drop}
use lib.Seq.{slice}
use Rattle.chars.specs.Pieces.{fields, bare}
use Rattle.chars.specs.Places.{same}
use Rattle.chars.specs.Inner.{FieldEnd, BareEnd}
use Rattle.writer.proofs.LinePieces.{first_of, tail_of}
use Rattle.parts.specs.Parts.{behind_word, section}

-- a line of s with this word, or another
module _ (s word : List ℕ) (a e end q : ℕ) (B : BareEnd s a e end) (F : FieldEnd s a end q) where
  abbrev first : List ℕ
  first = get_or (fields (bare (slice a e s))) 0 []

  told : (v : Bool) → same (slice a q s) word ≡ v → same first word ≡ v
  told v h = ap (λ (f : List ℕ). same f word) (first_of s a e end q B F) ∙ h

  pub behind_here : e ≤ length s → same (slice a q s) word ≡ true → behind_word word (slice a e s) ≡ slice q end s ∷ []
  unfolding behind_word
  behind_here l h =
      ap (λ (v : Bool). cond v (drop (length word) (bare (slice a e s)) ∷ []) []) (told true h)
      ∙ ap (λ (x : List ℕ). x ∷ []) (tail_of s a e end q B F word l h)

  pub behind_other : same (slice a q s) word ≡ false → behind_word word (slice a e s) ≡ []
  unfolding behind_word
  behind_other h = ap (λ (v : Bool). cond v (drop (length word) (bare (slice a e s)) ∷ []) []) (told false h)

pub section_more : (w l : List ℕ) (ls : List (List ℕ)) → section w (l ∷ ls) ≡ behind_word w l ++ section w ls
unfolding section
section_more w l ls = refl

pub section_none : (w : List ℕ) → section w [] ≡ []
unfolding section
section_none w = refl
