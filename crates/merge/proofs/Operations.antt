-- The laws of merging, of what `merge` gives and leaves: the text reads to the two books together, a sheet with itself comes out as `write` writes
-- it, and writing the merged text changes nothing. Assumes nothing.
use Prim.Native.Nat.{ℕ, ◌≤◌, ◌<◌}
use native.Mathlib.Omega.{arith}
use native.Mathlib.Decide.{dec_lt}
use mathlib.Core.Path.{◌≡◌, refl, ap, sym, ◌∙◌}
use mathlib.Core.Bool.{Bool, true, false, cond}
use mathlib.Core.List.{List, [], ◌∷◌, Memᴰ}
use lib.ListN.{length, take, drop}
use lib.Seq.{take-append_seam}
use lib.Dec.{ltb}
use borrow.Author.Tests.{le-ltb}
use Rattle.refusals.specs.Text.{text_refusals}
use Rattle.chars.specs.Places.{meets}
use Rattle.fields.specs.Book.{Book}
use Rattle.lines.specs.Reader.{read_sheet, written}
use Rattle.writer.specs.Text.{text_of}
use Rattle.writer.specs.Writer as writer
use Rattle.writer.specs.declared.Written.{Written}
use Rattle.writer.proofs.Laws as laws
use Rattle.writer.proofs.Proper.{Proper}
use Rattle.writer.proofs.ProperSheets.{sheet_proper}
use Rattle.writer.proofs.Shorter.{sheet_whole, whole_told, text_shorter}
use Rattle.merge.specs.declared.Merged.{Merged}
use Rattle.merge.specs.Joined.{crossed, both_books}
use Rattle.merge.specs.Merge.{joins, said, oversized, judge, merge_of, merged_in, out_after}
use Rattle.merge.proofs.Together.{not_member}
use Rattle.merge.proofs.ProperBoth.{not_both_kinds}
use Rattle.merge.proofs.WithItself.{with_itself}
use Rattle.merge.proofs.Joinings.{both_read}
use Rattle.merge.proofs.Outcomes.{short_result, merged_result, merged_out}
use Rattle.merge.proofs.Laws.{reads_back}

-- What merging s and t to `out` says.
abbrev pub result : List ℕ → List ℕ → List ℕ → Merged
result s t out = merged_in (length out) (merge_of s t)

-- What `out` holds afterwards.
abbrev pub output : List ℕ → List ℕ → List ℕ → List ℕ
output s t out = out_after out (merge_of s t)

-- The merged text: the output up to the length told.
abbrev pub text_in : List ℕ → List ℕ → List ℕ → List ℕ
text_in s t out = take (result s t out).length (output s t out)

-- ---- a merge that is not refused
module _ (s t : List ℕ) (a b : Book) (e : merge_of s t ≡ joins a b) where
  text_in_is : (out : List ℕ) → (result s t out).refusal ≡ 0 → text_in s t out ≡ text_of (both_books a b)
  text_in_is out z = by (dec_lt (length out) (length (text_of (both_books a b))))
    where
      by : Dec (length out < length (text_of (both_books a b))) → text_in s t out ≡ text_of (both_books a b)
      by (yes l) = let r = ap (λ (w : Merged). w.refusal) (short_result out (merge_of s t) a b e l) in absurd (omega arith)
      by (no n) =
          let l : length (text_of (both_books a b)) ≤ length out = omega arith in
          ap (λ (w : Merged). take w.length (output s t out)) (merged_result out (merge_of s t) a b e l)
          ∙ ap (take (length (text_of (both_books a b)))) (merged_out out (merge_of s t) a b e l)
          ∙ take-append_seam (text_of (both_books a b)) (drop (length (text_of (both_books a b))) out)

  -- Reading the merged text gives the two books together.
  pub merged_reads : (out : List ℕ) → (result s t out).refusal ≡ 0 → read_sheet (text_in s t out) ≡ written (both_books a b)
  merged_reads out z = ap read_sheet (text_in_is out z) ∙ reads_back s t a b e

  -- Writing the merged text changes nothing.
  pub merged_settled : (out : List ℕ) → (result s t out).refusal ≡ 0 → (out' : List ℕ) → (laws.result (text_in s t out) out').refusal ≡ 0 → laws.text_in (text_in s t out) out' ≡ text_in s t out
  merged_settled out z out' y = laws.text_in_is (text_in s t out) (both_books a b) (merged_reads out z) out' y ∙ sym (text_in_is out z)

-- ---- a sheet with itself
never : (xs ys : List (List ℕ)) → ((x : List ℕ) → Memᴰ x xs → Memᴰ x ys → ⊥) → meets xs ys ≡ false
never [] ys h = refl
never (x ∷ xs) ys h = rw (not_member x ys (h x (Memᴰ.head refl)), never xs ys (λ z m. h z (Memᴰ.tail m))) refl

module _ (s : List ℕ) (a : Book) (e : read_sheet s ≡ written a) where
  proper : Proper a
  proper = sheet_proper s a e

  uncrossed : crossed a.names a.names ≡ false
  unfolding crossed
  uncrossed =
      rw (never a.names.fluents a.names.actions (λ x m k. not_both_kinds a.names proper.named x k m), never a.names.actions a.names.fluents (λ x m k. not_both_kinds a.names proper.named x m k)) refl

  roomy : oversized a ≡ false
  roomy =
      let v = proper.valid in
      rw (le-ltb 64 (length a.names.fluents) v.few_fluents, le-ltb 64 (length a.names.actions) v.few_actions, le-ltb 256 (length a.rules) v.few_rules) refl

  short : length (text_of a) ≤ 65536
  short = let l = text_shorter s a e in let w = (whole_told s (sheet_whole s a e)).0 in omega arith

  -- A sheet can always be merged with itself.
  pub joins_itself : merge_of s s ≡ joins a a
  unfolding judge
  joins_itself =
      both_read s s a a e e
      ∙ rw (uncrossed, with_itself a proper, roomy, le-ltb 65536 (length (text_of a)) short) refl

-- Merged with itself an accepted sheet is refused with nothing but 50, and leaves what `write` leaves.
pub record AsWritten (s out : List ℕ) : Type 0 where
  pub says : result s s out ≡ said (laws.result s out).refusal 0 0 (laws.result s out).length
  pub leaves : output s s out ≡ laws.output s out

pub as_written : (s : List ℕ) (a : Book) → read_sheet s ≡ written a → (out : List ℕ) → AsWritten s out
unfolding merged_in out_after writer.written_in writer.out_after
as_written s a e out =
    let n = length (text_of a) in
    let i = with_itself a (sheet_proper s a e) in
    let j = joins_itself s a e in
    let x : result s s out ≡ cond (ltb (length out) n) (said text_refusals.text_short 0 0 0) (said 0 0 0 n) = ap (merged_in (length out)) j ∙ rw i refl in
    let y : laws.result s out ≡ cond (ltb (length out) n) (writer.said text_refusals.text_short 0 0) (writer.said 0 0 n) = ap (writer.written_in (length out)) e in
    record {
      says = x ∙ by (ltb (length out) n) ∙ ap (λ (w : Written). said w.refusal 0 0 w.length) (sym y);
      leaves = ap (out_after out) j ∙ rw i refl ∙ sym (ap (writer.out_after out) e);
    }
  where
    by : (v : Bool) → cond v (said text_refusals.text_short 0 0 0) (said 0 0 0 (length (text_of a))) ≡ said (cond v (writer.said text_refusals.text_short 0 0) (writer.said 0 0 (length (text_of a)))).refusal 0 0 (cond v (writer.said text_refusals.text_short 0 0) (writer.said 0 0 (length (text_of a)))).length
    by true = refl
    by false = refl
