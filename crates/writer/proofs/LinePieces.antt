-- What a line gives to the text, case by case. Assumes nothing.
use Prim.Native.Nat.{ℕ, suc, ◌+◌, ◌≤◌}
use native.Mathlib.Omega.{arith}
use mathlib.Core.Path.{◌≡◌, refl, ap, ◌∙◌}
use mathlib.Core.Bool.{Bool, true, false, cond}
use mathlib.Core.List.{List, [], ◌∷◌, ◌++◌}
use lib.ListN.{length, get_or, take, drop, length-append}
use lib.Seq.{slice, length-slice, drop-drop}
use Rattle.steps.specs.State.{State, holds}
use Rattle.chars.specs.Bytes.{text, LF, HASH, begins}
use Rattle.chars.specs.Pieces.{fields, bare}
use Rattle.chars.specs.Places.{same}
use Rattle.chars.specs.Inner.{FieldEnd, BareEnd}
use Rattle.chars.proofs.Fields.{fields_first}
use Rattle.chars.proofs.Names.{same_length}
use Rattle.writer.specs.Inner.{plain_piece, plain_bytes, held_piece, held_next, held_bytes, start_bytes, line_piece, line_bytes}

-- the line's first field, and what is behind its word
module _ (s : List ℕ) (a e end q : ℕ) (B : BareEnd s a e end) (F : FieldEnd s a end q) where
  pub first_of : get_or (fields (bare (slice a e s))) 0 [] ≡ slice a q s
  first_of = ap (λ (l : List ℕ). get_or (fields l) 0 []) B.cut ∙ ap (λ (fs : List (List ℕ)). get_or fs 0 []) (fields_first s a end q B.from F)

  pub tail_of : (word : List ℕ) → e ≤ length s → same (slice a q s) word ≡ true → drop (length word) (bare (slice a e s)) ≡ slice q end s
  tail_of word w h =
      let n = same_length (slice a q s) word h in
      let i = F.within in
      let j = B.within in
      let k = F.from in
      let m = length-slice a q s (omega arith) in
      let z : a + length word ≡ q = omega arith in
      ap (drop (length word)) B.cut ∙ drop-drop (length word) a (take end s) ∙ ap (λ (n : ℕ). drop n (take end s)) z

module _ (l : List ℕ) where
  pub plain_comment : begins HASH l ≡ true → plain_piece l ≡ []
  unfolding plain_piece
  plain_comment h = rw h refl

  pub plain_record : begins HASH l ≡ false → plain_piece l ≡ bare l ++ (LF ∷ [])
  unfolding plain_piece
  plain_record h = rw h refl

  pub plain_more : (ls : List (List ℕ)) → plain_bytes (l ∷ ls) ≡ plain_piece l ++ plain_bytes ls
  unfolding plain_bytes
  plain_more ls = refl

pub plain_none : plain_bytes [] ≡ []
unfolding plain_bytes
plain_none = refl

module _ (k : ℕ) (st : State) (l : List ℕ) where
  abbrev first : List ℕ
  first = get_or (fields (bare l)) 0 []

  pub held_other : same first (text "fluent") ≡ false → held_piece k st l ≡ []
  unfolding held_piece
  held_other h = rw h refl

  pub held_not : holds st k ≡ false → held_piece k st l ≡ []
  unfolding held_piece
  held_not h = ap (λ (u : Bool). cond (same first (text "fluent")) (cond u (drop 6 (bare l)) []) []) h ∙ by (same first (text "fluent"))
    where
      by : (t : Bool) → cond {A = List ℕ} t [] [] ≡ []
      by true = refl
      by false = refl

  pub held_here : same first (text "fluent") ≡ true → holds st k ≡ true → held_piece k st l ≡ drop 6 (bare l)
  unfolding held_piece
  held_here h u = ap (λ (t : Bool). cond t (cond (holds st k) (drop 6 (bare l)) []) []) h ∙ ap (λ (t : Bool). cond t (drop 6 (bare l)) []) u

  pub next_other : same first (text "fluent") ≡ false → held_next k l ≡ k
  unfolding held_next
  next_other h = rw h refl

  pub next_fluent : same first (text "fluent") ≡ true → held_next k l ≡ suc k
  unfolding held_next
  next_fluent h = rw h refl

  pub held_more : (ls : List (List ℕ)) → held_bytes k st (l ∷ ls) ≡ held_piece k st l ++ held_bytes (held_next k l) st ls
  unfolding held_bytes
  held_more ls = refl

pub held_none : (k : ℕ) (st : State) → held_bytes k st [] ≡ []
unfolding held_bytes
held_none k st = refl

pub start_bytes_are : (st : State) (all : List (List ℕ)) → start_bytes st all ≡ (text "start" ++ held_bytes 0 st all) ++ (LF ∷ [])
unfolding start_bytes
start_bytes_are st all = refl

pub start_size : (st : State) (all : List (List ℕ)) → length (start_bytes st all) ≡ 6 + length (held_bytes 0 st all)
start_size st all =
    let a = ap length (start_bytes_are st all) in
    let c = length-append (text "start" ++ held_bytes 0 st all) (LF ∷ []) in
    let d = length-append (text "start") (held_bytes 0 st all) in
    omega arith

module _ (st : State) (all : List (List ℕ)) (l : List ℕ) where
  pub line_comment : begins HASH l ≡ true → line_piece st all l ≡ []
  unfolding line_piece
  line_comment h = rw h refl

  module _ (h : begins HASH l ≡ false) where
    pub line_start : same (get_or (fields (bare l)) 0 []) (text "start") ≡ true → line_piece st all l ≡ start_bytes st all
    unfolding line_piece
    line_start u = rw (h, u) refl

    pub line_other : same (get_or (fields (bare l)) 0 []) (text "start") ≡ false → line_piece st all l ≡ bare l ++ (LF ∷ [])
    unfolding line_piece
    line_other u = rw (h, u) refl

  pub line_more : (ls : List (List ℕ)) → line_bytes st all (l ∷ ls) ≡ line_piece st all l ++ line_bytes st all ls
  unfolding line_bytes
  line_more ls = refl

pub line_none : (st : State) (all : List (List ℕ)) → line_bytes st all [] ≡ []
unfolding line_bytes
line_none st all = refl
