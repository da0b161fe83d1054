-- The span of a merged fluent's name, by the merge's outcome; it lies in its sheet. Assumes nothing.
use Prim.Native.Nat.{ℕ, ◌+◌, ◌≤◌, ◌<◌}
use native.Mathlib.Omega.{arith}
use mathlib.Core.Path.{◌≡◌, ap, ◌∙◌}
use mathlib.Core.Bool.{Bool, true, false, cond}
use mathlib.Core.List.{List, []}
use lib.ListN.{length, get_or}
use lib.Dec.{ltb, eqb}
use borrow.Author.Tests.{lt-ltb, le-ltb}
use Rattle.chars.specs.Places.{place}
use Rattle.fields.specs.Book.{Book}
use Rattle.sheet.proofs.FluentNames.{span_within}
use Rattle.sheet.specs.FluentName.{name_span}
use Rattle.merge.specs.Joined.{both_books}
use Rattle.merge.specs.Merge.{Judgement, faulty, joins, merge_of}
use Rattle.origin.specs.declared.Part.{Part}
use Rattle.origin.specs.MergedName.{part_in, none_part, brought_by, merged_span}

module _ (s t : List ℕ) (k : ℕ) where
  abbrev In : Part → Type 0
  In p = p.at + p.len ≤ length (cond (eqb p.sheet 2) t s)

  brought_in : (a b : Book) → In (brought_by s t k a b)
  brought_in a b = by (ltb k (length a.names.fluents))
    where
      by : (v : Bool) → In (cond v (part_in 1 (name_span s k)) (part_in 2 (name_span t (place (get_or (both_books a b).names.fluents k []) b.names.fluents))))
      by true = span_within s k
      by false = span_within t (place (get_or (both_books a b).names.fluents k []) b.names.fluents)

  pub part_within : In (merged_span s t k)
  unfolding merged_span
  part_within = by (merge_of s t)
    where
      there : (a b : Book) (v : Bool) → In (cond v (brought_by s t k a b) none_part)
      there a b true = brought_in a b
      there a b false = omega arith

      by : (o : Judgement) → In (elim o [ faulty number sheet line ↦ none_part | joins a b ↦ cond (ltb k (length (both_books a b).names.fluents)) (brought_by s t k a b) none_part ])
      by (faulty n h l) = omega arith
      by (joins a b) = there a b (ltb k (length (both_books a b).names.fluents))

-- the span, by the outcome
module _ (s t : List ℕ) (k : ℕ) where
  abbrev span_by : Judgement → Part
  span_by o = elim o [ faulty number sheet line ↦ none_part | joins a b ↦ cond (ltb k (length (both_books a b).names.fluents)) (brought_by s t k a b) none_part ]

  pub span_faulty : (n h l : ℕ) → merge_of s t ≡ faulty n h l → merged_span s t k ≡ none_part
  unfolding merged_span
  span_faulty n h l e = ap span_by e

  pub span_high : (a b : Book) → merge_of s t ≡ joins a b → length (both_books a b).names.fluents ≤ k → merged_span s t k ≡ none_part
  unfolding merged_span
  span_high a b e h = ap span_by e ∙ ap (λ (v : Bool). cond v (brought_by s t k a b) none_part) (le-ltb k (length (both_books a b).names.fluents) h)

  pub span_there : (a b : Book) → merge_of s t ≡ joins a b → k < length (both_books a b).names.fluents → merged_span s t k ≡ brought_by s t k a b
  unfolding merged_span
  span_there a b e h = ap span_by e ∙ ap (λ (v : Bool). cond v (brought_by s t k a b) none_part) (lt-ltb k (length (both_books a b).names.fluents) h)
