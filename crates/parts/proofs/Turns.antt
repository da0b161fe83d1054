-- What one part adds to a list of parts, to a text and to a state. Assumes nothing.
use Prim.Native.Nat.{ℕ, suc, ◌+◌, ◌*◌, ◌-◌, ◌≤◌, ◌<◌}
use native.Mathlib.Omega.{arith}
use mathlib.Core.Path.{◌≡◌, refl, ap, sym, ◌∙◌}
use mathlib.Core.Bool.{Bool, true, false, cond}
use mathlib.Core.List.{List, [], ◌∷◌, ◌++◌}
use lib.ListN.{length, get_or, length-append}
use lib.Seq.{slice, length-slice, take-length}
use Rattle.steps.specs.State.{State, holds}
use Rattle.steps.specs.Inner.{inserted}
use Rattle.chars.specs.Bytes.{text, LF}
use Rattle.chars.specs.Places.{place, among}
use Rattle.writer.specs.Text.{holding}
use Rattle.parts.specs.Parts.{At, Grows, part_at, parts_from, fresh, news, inserted_in, wrapped}
use Rattle.parts.specs.Texts.{start_parts, text_parts}
use Rattle.parts.proofs.PartLists.{parts_first, grows_range}
use Rattle.parts.proofs.News.{news_more}

pub whole_slice : (l : List ℕ) → slice 0 (length l) l ≡ l
whole_slice l = take-length l

-- ---- new ones
pub fresh_size : (xs : List (List ℕ)) (y : List ℕ) → length (fresh xs y) ≤ 1
unfolding fresh
fresh_size xs y = by (among y xs)
  where
    by : (v : Bool) → length (cond {A = List (List ℕ)} v [] (y ∷ [])) ≤ 1
    by true = omega arith
    by false = omega arith

module _ (cut : ℕ) (u l l' : List ℕ) (n r i hi : ℕ) where
  abbrev rest : List (List ℕ)
  rest = parts_from u l (i + 1) (hi - (i + 1))

  kept_rest : (x : List (List ℕ)) → i < hi → hi ≤ n → Grows cut u l n l' r x → parts_from u l' (i + 1) (hi - (i + 1)) ≡ rest
  kept_rest x h k g = g.kept (i + 1) (hi - (i + 1)) (omega arith)

  pub new_turn : (base : ℕ) → base ≤ n → i < hi → hi ≤ n → Grows cut u l n l' r (fresh (parts_from u l base (n - base)) (part_at u l i))
      → fresh (parts_from u l base (n - base)) (part_at u l i) ++ news (parts_from u l' base (r - base)) (parts_from u l' (i + 1) (hi - (i + 1))) ≡ news (parts_from u l base (n - base)) (parts_from u l i (hi - i))
  new_turn base b h k g =
      let X = parts_from u l base (n - base) in
      let f = fresh X (part_at u l i) in
      ap (λ (z : List (List ℕ)). f ++ news z (parts_from u l' (i + 1) (hi - (i + 1)))) (grows_range cut u l l' n r base f b g)
      ∙ ap (λ (z : List (List ℕ)). f ++ news (X ++ f) z) (kept_rest f h k g)
      ∙ sym (news_more X (part_at u l i) rest)
      ∙ ap (news X) (sym (parts_first u l i hi h))

  pub held_turn : (k : ℕ) (st : State) (x : List (List ℕ)) → i < hi → hi ≤ n → Grows cut u l n l' r x → x ≡ holding k st (part_at u l i ∷ [])
      → x ++ holding (suc k) st (parts_from u l' (i + 1) (hi - (i + 1))) ≡ holding k st (parts_from u l i (hi - i))
  unfolding holding
  held_turn k st x h m g e =
      ap (λ (z : List (List ℕ)). x ++ holding (suc k) st z) (kept_rest x h m g)
      ∙ ap (λ (z : List (List ℕ)). z ++ holding (suc k) st rest) e
      ∙ by (holds st k)
      ∙ ap (holding k st) (sym (parts_first u l i hi h))
    where
      by : (v : Bool) → cond v (part_at u l i ∷ []) [] ++ holding (suc k) st rest ≡ cond v (part_at u l i ∷ holding (suc k) st rest) (holding (suc k) st rest)
      by true = refl
      by false = refl

-- ---- those that hold
module _ (k : ℕ) (st : State) (p : List ℕ) where
  pub held_here : holds st k ≡ true → holding k st (p ∷ []) ≡ p ∷ []
  unfolding holding
  held_here h = ap (λ (v : Bool). cond v (p ∷ []) []) h

  pub held_not : holds st k ≡ false → holding k st (p ∷ []) ≡ []
  unfolding holding
  held_not h = ap (λ (v : Bool). cond v (p ∷ []) []) h

pub held_none : (k : ℕ) (st : State) → holding k st [] ≡ []
unfolding holding
held_none k st = refl

pub holding_few : (k : ℕ) (st : State) (ns : List (List ℕ)) → length (holding k st ns) ≤ length ns
unfolding holding
holding_few k st [] = omega arith
holding_few k st (n ∷ ns) = by (holding_few (suc k) st ns) (holds st k)
  where
    by : length (holding (suc k) st ns) ≤ length ns → (v : Bool) → length (cond v (n ∷ holding (suc k) st ns) (holding (suc k) st ns)) ≤ suc (length ns)
    by h true = omega arith
    by h false = omega arith

-- ---- the state
pub inserted_more : (all : List (List ℕ)) (k : ℕ) (s : State) (n : List ℕ) (ns : List (List ℕ)) (to : State) → inserted_in all k s (n ∷ ns) to ≡ inserted_in all (suc k) s ns (cond (holds s k) (inserted to (place n all)) to)
unfolding inserted_in
inserted_more all k s n ns to = refl

pub inserted_none : (all : List (List ℕ)) (k : ℕ) (s to : State) → inserted_in all k s [] to ≡ to
unfolding inserted_in
inserted_none all k s to = refl

-- ---- the text
pub wrapped_more : (w z p : List ℕ) (ps : List (List ℕ)) → wrapped w z (p ∷ ps) ≡ ((w ++ p) ++ z) ++ wrapped w z ps
unfolding wrapped
wrapped_more w z p ps = refl

pub wrapped_none : (w z : List ℕ) → wrapped w z [] ≡ []
unfolding wrapped
wrapped_none w z = refl

pub wrapped_size : (w z p : List ℕ) (ps : List (List ℕ)) → length (wrapped w z (p ∷ ps)) ≡ (length w + length p + length z) + length (wrapped w z ps)
wrapped_size w z p ps =
    let a = ap length (wrapped_more w z p ps) in
    let b = length-append ((w ++ p) ++ z) (wrapped w z ps) in
    let c = length-append (w ++ p) z in
    let d = length-append w p in
    omega arith

pub part_short : (cut : ℕ) (u list : List ℕ) (i : ℕ) → At cut u list i → length (part_at u list i) ≤ length u
part_short cut u list i h = let n = length-slice (get_or list (2 * i) 0) (get_or list (2 * i + 1) 0) u h.lies.within in let k = h.lies.within in omega arith

-- ---- the text's size
pub text_length : (F C R H G : List (List ℕ)) → length (text_parts F C R H G)
    ≡ length (wrapped (text "fluent") (LF ∷ []) F) + (length (wrapped (text "action") (LF ∷ []) C) + (length (wrapped (text "rule") (LF ∷ []) R) + ((6 + length (wrapped [] [] H)) + length (wrapped (text "goal") (LF ∷ []) G))))
text_length F C R H G =
    let f = wrapped (text "fluent") (LF ∷ []) F in
    let c = wrapped (text "action") (LF ∷ []) C in
    let r = wrapped (text "rule") (LF ∷ []) R in
    let h = wrapped [] [] H in
    let g = wrapped (text "goal") (LF ∷ []) G in
    let a = length-append f (c ++ (r ++ (start_parts H ++ g))) in
    let b = length-append c (r ++ (start_parts H ++ g)) in
    let d = length-append r (start_parts H ++ g) in
    let e = length-append (start_parts H) g in
    let i = length-append (text "start" ++ h) (LF ∷ []) in
    let j = length-append (text "start") h in
    omega arith
