-- The part handed back is the merged fluent's name. Assumes nothing.
use Prim.Native.Nat.{ℕ, ◌≤◌, ◌<◌}
use native.Mathlib.Omega.{arith}
use mathlib.Core.Path.{◌≡◌, refl, ap, sym, ◌∙◌}
use mathlib.Core.Bool.{Bool, true, false, cond}
use mathlib.Core.List.{List, [], Memᴰ}
use mathlib.Core.Logic.{◌⊎◌, inl, inr}
use lib.ListN.{length, get_or, get_or-append}
use lib.Dec.{ltb}
use borrow.Author.Tests.{lt-ltb, ltb-true, ltb-false}
use Rattle.steps.proofs.Lists.{at_member}
use Rattle.chars.specs.Places.{place}
use Rattle.fields.specs.Book as sheet
use Rattle.sheet.specs.FluentName.{name_span}
use Rattle.sheet.proofs.FluentNames.{name_is}
use Rattle.writer.proofs.NamesApart.{adds_place}
use Rattle.writer.proofs.Undoing.{place_is}
use Rattle.writer.proofs.ProperSheets.{sheet_proper}
use Rattle.merge.specs.Joined.{together, both_names, book_over, both_books}
use Rattle.merge.specs.Merge.{Judgement, faulty, joins, merge_of}
use Rattle.merge.proofs.Together.{member_below, together_more, together_out, together_place}
use Rattle.merge.proofs.Joins.{Joins, joins_told, names_fit}
use Rattle.merge.proofs.ProperBoth.{fluents_first, both_named}
use Rattle.origin.specs.MergedName.{part_in, none_part, brought_by, merged_span, part_of_two}

-- The part handed back is the merged fluent's name.
abbrev pub NameIs : Type 0
NameIs = (s t : List ℕ) (a b : sheet.Book) (k : ℕ) → merge_of s t ≡ joins a b → k < length (both_books a b).names.fluents
    → part_of_two s t (merged_span s t k) ≡ get_or (both_books a b).names.fluents k []

module _ (s t : List ℕ) (a b : sheet.Book) (k : ℕ) (e : merge_of s t ≡ joins a b) (l : k < length (both_books a b).names.fluents) where
  span_is : merged_span s t k ≡ brought_by s t k a b
  unfolding merged_span
  span_is =
      ap (λ (o : Judgement). elim o [ faulty number sheet line ↦ none_part | joins a b ↦ cond (ltb k (length (both_books a b).names.fluents)) (brought_by s t k a b) none_part ]) e
      ∙ ap (λ (v : Bool). cond v (brought_by s t k a b) none_part) (lt-ltb k (length (both_books a b).names.fluents) l)

  abbrev j : Joins s t a b
  j = joins_told s t a b e

  abbrev name : List ℕ
  name = get_or (together a.names.fluents b.names.fluents) k []

  of_first : k < length a.names.fluents → get_or a.names.fluents k [] ≡ name
  of_first h = let (zs, f) = together_more a.names.fluents b.names.fluents in sym (ap (λ (x : List (List ℕ)). get_or x k []) f ∙ get_or-append a.names.fluents zs [] k h)

  of_second : k < length (together a.names.fluents b.names.fluents) → length a.names.fluents ≤ k → Memᴰ name b.names.fluents
  of_second u h = by (together_out name a.names.fluents b.names.fluents (at_member (together a.names.fluents b.names.fluents) k [] u))
    where
      by : Memᴰ name a.names.fluents ⊎ Memᴰ name b.names.fluents → Memᴰ name b.names.fluents
      by (inr m) = m
      by (inl m) =
          let named = both_named a b (sheet_proper s a j.first) (sheet_proper t b j.second) (names_fit a b j.fits) in
          let here = adds_place [] (together a.names.fluents b.names.fluents) (fluents_first (both_names a.names b.names) named) k u in
          let there = together_place name a.names.fluents b.names.fluents m in
          let low = member_below name a.names.fluents m in
          absurd (omega arith)

  brought : k < length (together a.names.fluents b.names.fluents) → (v : Bool) → ltb k (length a.names.fluents) ≡ v
      → part_of_two s t (cond v (part_in 1 (name_span s k)) (part_in 2 (name_span t (place name b.names.fluents)))) ≡ name
  brought u true h = let low = ltb-true k (length a.names.fluents) h in name_is s a k j.first low ∙ of_first low
  brought u false h =
      let low = member_below name b.names.fluents (of_second u (ltb-false k (length a.names.fluents) h)) in
      name_is t b (place name b.names.fluents) j.second low ∙ place_is name b.names.fluents low

pub name_told : NameIs
unfolding book_over
name_told s t a b k e l = ap (part_of_two s t) (span_is s t a b k e l) ∙ brought s t a b k e l l (ltb k (length a.names.fluents)) refl
