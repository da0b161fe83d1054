-- The names of `start` in fluent order are as many bytes as in the sheet's. Assumes nothing.
use Prim.Native.Nat.{ℕ, zero, suc, ◌+◌, ◌/◌, ◌%◌, ◌^◌, ◌<◌}
use native.Mathlib.Omega.{arith}
use native.Mathlib.Nat.{zero-div}
use mathlib.Core.Path.{◌≡◌, refl, ap, sym, ◌∙◌, subst}
use mathlib.Core.Bool.{Bool, true, false, cond, not, ◌&&◌, ◌||◌}
use mathlib.Core.List.{List, [], ◌∷◌}
use lib.ListN.{length, get_or, length-append}
use borrow.Author.Tests.{ltb-true, not-true, eq-eqb, ne_eqb}
use Rattle.steps.specs.State.{holds, added}
use Rattle.steps.proofs.StateLaws.{holds_added}
use Rattle.chars.specs.Bytes.{is_name}
use Rattle.chars.specs.Places.{place, among}
use Rattle.fields.specs.Verdict.{accept}
use Rattle.fields.specs.Book.{Symbols}
use Rattle.fields.specs.Field.{start_name, start_names}
use Rattle.fields.proofs.Verdicts.{followed, same_value}
use Rattle.sheet.proofs.AcceptedLines.{judged_accepted}
use Rattle.writer.specs.Text.{tabbed, holding}
use Rattle.writer.proofs.Undoing.{place_is}

abbrev pub weight : List (List ℕ) → ℕ
weight fs = length (tabbed fs)

weight_more : (f : List ℕ) (fs : List (List ℕ)) → weight (f ∷ fs) ≡ suc (length f) + weight fs
weight_more f fs = let n = length-append f (tabbed fs) in omega arith

-- a lower fluent more changes nothing
untouched : (j k s : ℕ) (names : List (List ℕ)) → k < j → holding j (added s k) names ≡ holding j s names
unfolding holding
untouched j k s [] l = refl
untouched j k s (n ∷ ns) l = rw (holds_added s k j, ne_eqb j k (λ e. omega arith), untouched (suc j) k s ns (omega arith)) refl

-- fluent j + i more: its name more
touched : (j i k s : ℕ) (names : List (List ℕ)) → k ≡ j + i → i < length names → holds s k ≡ false → weight (holding j (added s k) names) ≡ weight (holding j s names) + suc (length (get_or names i []))
unfolding holding
touched j i k s [] q l h = absurd (omega arith)
touched j zero k s (n ∷ ns) q l h =
    let e : k ≡ j = omega arith in
    let a : holds (added s k) j ≡ true = holds_added s k j ∙ ap (λ (t : Bool). t || holds s j) (eq-eqb j k (sym e)) in
    let b : holds s j ≡ false = subst (λ (i : ℕ). holds s i ≡ false) e h in
    let u = untouched (suc j) k s ns (omega arith) in
    let w = weight_more n (holding (suc j) s ns) in
    ap (λ (t : Bool). weight (cond t (n ∷ holding (suc j) (added s k) ns) (holding (suc j) (added s k) ns))) a
    ∙ ap (λ (m : List (List ℕ)). weight (n ∷ m)) u
    ∙ (omega arith)
    ∙ ap (λ (t : Bool). weight (cond t (n ∷ holding (suc j) s ns) (holding (suc j) s ns)) + suc (length n)) (sym b)
touched j (suc i) k s (n ∷ ns) q l h =
    let a : holds (added s k) j ≡ holds s j = holds_added s k j ∙ ap (λ (t : Bool). t || holds s j) (ne_eqb j k (λ e. omega arith)) in
    ap (λ (t : Bool). weight (cond t (n ∷ holding (suc j) (added s k) ns) (holding (suc j) (added s k) ns))) a
    ∙ by (holds s j) (touched (suc j) i k s ns (omega arith) (omega arith) h)
  where
    by : (t : Bool) → weight (holding (suc j) (added s k) ns) ≡ weight (holding (suc j) s ns) + suc (length (get_or ns i []))
        → weight (cond t (n ∷ holding (suc j) (added s k) ns) (holding (suc j) (added s k) ns)) ≡ weight (cond t (n ∷ holding (suc j) s ns) (holding (suc j) s ns)) + suc (length (get_or ns i []))
    by true r =
        let w = weight_more n (holding (suc j) s ns) in
        let x = weight_more n (holding (suc j) (added s k) ns) in
        omega arith
    by false r = r

module _ (y : Symbols) where
  one : (f : List ℕ) (s next : ℕ) → start_name y s f ≡ accept next → weight (holding 0 next y.fluents) ≡ weight (holding 0 s y.fluents) + suc (length f)
  unfolding start_name
  one f s next e =
      let k = place f y.fluents in
      let j = judged_accepted (is_name f) (not (among f y.fluents && holds s k)) (among f y.fluents) (added s k) next e in
      let l = ltb-true k (length y.fluents) j.is_defined in
      let h : holds s k ≡ false = fresh (among f y.fluents) (holds s k) j.is_defined j.is_fresh in
      ap (λ (x : ℕ). weight (holding 0 x y.fluents)) (sym j.value)
      ∙ touched 0 k k s y.fluents (omega arith) l h
      ∙ ap (λ (x : List ℕ). weight (holding 0 s y.fluents) + suc (length x)) (place_is f y.fluents l)
    where
      fresh : (t u : Bool) → t ≡ true → not (t && u) ≡ true → u ≡ false
      fresh t u e n = not-true u (rw e at n)

  pub start_weight : (fs : List (List ℕ)) (s last : ℕ) → start_names y s fs ≡ accept last → weight (holding 0 last y.fluents) ≡ weight (holding 0 s y.fluents) + weight fs
  unfolding start_names
  start_weight [] s last e = let q = ap (λ (x : ℕ). weight (holding 0 x y.fluents)) (sym (same_value e)) in omega arith
  start_weight (f ∷ fs) s last e =
      let (next, u, r) = followed (start_name y s f) (λ next. start_names y next fs) last e in
      let a = one f s next u in
      let b = start_weight fs next last r in
      let w = weight_more f fs in
      omega arith

-- before the first name nothing holds
pub none_held : (k : ℕ) (names : List (List ℕ)) → holding k 0 names ≡ []
unfolding holding
none_held k [] = refl
none_held k (n ∷ ns) = let z : holds 0 k ≡ false = ne_eqb (0 / 2 ^ k % 2) 1 (λ e. omega (arith, zero-div (2 ^ k))) in ap (λ (t : Bool). cond t (n ∷ holding (suc k) 0 ns) (holding (suc k) 0 ns)) z ∙ none_held (suc k) ns
