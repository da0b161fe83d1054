-- The fluents' parts that a merge leaves: how many there are, and the second's number of each. Assumes nothing.
use Prim.Native.Nat.{ℕ, zero, suc, ◌+◌, ◌-◌, ◌<◌}
use native.Mathlib.Omega.{arith}
use mathlib.Core.Path.{◌≡◌, refl, ap, sym, ◌∙◌}
use mathlib.Core.List.{List, [], ◌∷◌, ◌++◌, map}
use lib.ListN.{length, get_or, length-map}
use Rattle.chars.specs.Places.{place}
use Rattle.parts.specs.Parts.{part_at, parts_from}
use Rattle.parts.proofs.PartLists.{parts_length, part_getD}
use Rattle.merge.specs.declared.Joined.{Joined}
use Rattle.merge.specs.Joined.{book_over, both_books}
use Rattle.merge.specs.Inner.{Joining}
use Rattle.merge.proofs.Joins.{joins_told}
use Rattle.merge.proofs.SheetParts.{tab, fluent_parts}
use Rattle.merge.proofs.MergedParts.{place_tab}
use Rattle.merge.proofs.Joinings.{fluents_are}

getD_tab : (ns : List (List ℕ)) (k : ℕ) → k < length ns → get_or (map tab ns) k [] ≡ tab (get_or ns k [])
getD_tab [] k h = absurd (omega arith)
getD_tab (n ∷ ns) zero h = refl
getD_tab (n ∷ ns) (suc k) h = getD_tab ns k (omega arith)

module _ (s t list : List ℕ) (r : Joined) (J : Joining s t list r) where
  all_are : parts_from (s ++ t) list r.layout.fluents.own (r.layout.fluents.end - r.layout.fluents.own) ≡ map tab (both_books J.ours J.theirs).names.fluents
  unfolding book_over
  all_are = let j = joins_told s t J.ours J.theirs J.joined in J.fluents.both ∙ fluents_are s t J.ours J.theirs j.first j.second

  pub count_all : r.layout.fluents.end - r.layout.fluents.own ≡ length (both_books J.ours J.theirs).names.fluents
  count_all = sym (parts_length (s ++ t) list r.layout.fluents.own _) ∙ ap length all_are ∙ length-map (both_books J.ours J.theirs).names.fluents tab

  pub count_first : r.layout.fluents.new - r.layout.fluents.own ≡ length J.ours.names.fluents
  count_first =
      let j = joins_told s t J.ours J.theirs J.joined in
      sym (parts_length (s ++ t) list r.layout.fluents.own _) ∙ ap length (J.fluents.first ∙ fluent_parts s J.ours j.first) ∙ length-map J.ours.names.fluents tab

  pub name_place : (k : ℕ) → k < length (both_books J.ours J.theirs).names.fluents
      → place (part_at (s ++ t) list (r.layout.fluents.own + k)) (parts_from (s ++ t) list r.layout.fluents.lo (r.layout.fluents.own - r.layout.fluents.lo)) ≡ place (get_or (both_books J.ours J.theirs).names.fluents k []) J.theirs.names.fluents
  name_place k h =
      let j = joins_told s t J.ours J.theirs J.joined in
      let n = count_all in
      let p = sym (part_getD (s ++ t) list r.layout.fluents.own (r.layout.fluents.end - r.layout.fluents.own) k (omega arith)) ∙ ap (λ (x : List (List ℕ)). get_or x k []) all_are ∙ getD_tab (both_books J.ours J.theirs).names.fluents k h in
      ap (λ (x : List ℕ). place x (parts_from (s ++ t) list r.layout.fluents.lo (r.layout.fluents.own - r.layout.fluents.lo))) p
      ∙ ap (place (tab (get_or (both_books J.ours J.theirs).names.fluents k []))) (J.fluents.second ∙ fluent_parts t J.theirs j.second)
      ∙ place_tab (get_or (both_books J.ours J.theirs).names.fluents k []) J.theirs.names.fluents
