-- The laws of writing, of what `write` gives and leaves: the text reads back, is no longer than the sheet, is alike just where sheets agree,
-- and is changed by no further writing. Assumes nothing.
use Prim.Native.Nat.{ℕ, ◌≤◌, ◌<◌}
use native.Mathlib.Omega.{arith}
use native.Mathlib.Decide.{dec_lt}
use mathlib.Core.Path.{◌≡◌, refl, ap, sym, ◌∙◌, subst}
use mathlib.Core.List.{List}
use mathlib.Core.Logic.{◌↔◌}
use lib.ListN.{length, take, drop}
use lib.Seq.{take-append_seam}
use Rattle.steps.specs.State.{State}
use Rattle.fields.specs.Book.{Book}
use Rattle.lines.specs.Reader.{Outcome, read_sheet, refused, written}
use Rattle.sheet.proofs.RefusalNumbers.{refused_number}
use Rattle.writer.specs.declared.Written.{Written}
use Rattle.writer.specs.Text.{text_of}
use Rattle.writer.specs.Writer.{written_in, out_after}
use Rattle.writer.proofs.Outcomes.{refused_result, short_result, written_result, written_out}
use Rattle.writer.proofs.ProperSheets.{sheet_proper}
use Rattle.writer.proofs.Forward.{reads_proper}
use Rattle.writer.proofs.Shorter.{sheet_whole, whole_told, text_shorter}

-- What writing the sheet s to `out` says.
abbrev pub result : List ℕ → List ℕ → Written
result s out = written_in (length out) (read_sheet s)

-- What `out` holds afterwards.
abbrev pub output : List ℕ → List ℕ → List ℕ
output s out = out_after out (read_sheet s)

-- The written text: the output up to the length told.
abbrev pub text_in : List ℕ → List ℕ → List ℕ
text_in s out = take (result s out).length (output s out)

-- Two sheets agree: the books that they read to have the same names, rules, start and goal, and so the same counts, which are lengths of these.
-- A book has nothing beside them: books that agree are equal (`agreed`).
pub record Agree (b c : Book) : Type 0 where
  pub fluents : b.names.fluents ≡ c.names.fluents
  pub actions : b.names.actions ≡ c.names.actions
  pub rules : b.rules ≡ c.rules
  pub start : b.start ≡ c.start
  pub goal : b.goal ≡ c.goal

-- ---- the text of an accepted sheet
module _ (s : List ℕ) (b : Book) (e : read_sheet s ≡ written b) where
  book_back : read_sheet (text_of b) ≡ written b
  book_back =
      let l = text_shorter s b e in
      let w = (whole_told s (sheet_whole s b e)).0 in
      reads_proper b (sheet_proper s b e) (omega arith)

  -- where the writer does not refuse, the text is that of the book
  pub text_in_is : (out : List ℕ) → (result s out).refusal ≡ 0 → text_in s out ≡ text_of b
  text_in_is out z = by (dec_lt (length out) (length (text_of b)))
    where
      by : Dec (length out < length (text_of b)) → text_in s out ≡ text_of b
      by (yes l) = let r = ap (λ (w : Written). w.refusal) (short_result out (read_sheet s) b e l) in absurd (omega arith)
      by (no n) =
          let l : length (text_of b) ≤ length out = omega arith in
          ap (λ (w : Written). take w.length (output s out)) (written_result out (read_sheet s) b e l)
          ∙ ap (take (length (text_of b))) (written_out out (read_sheet s) b e l)
          ∙ take-append_seam (text_of b) (drop (length (text_of b)) out)

  -- A buffer as long as the sheet always serves: then there is no 50.
  pub room_serves : (out : List ℕ) → length s ≤ length out → (result s out).refusal ≡ 0
  room_serves out h = let l = text_shorter s b e in ap (λ (w : Written). w.refusal) (written_result out (read_sheet s) b e (omega arith))

-- a sheet that is not refused was accepted
accepted : (s out : List ℕ) → (result s out).refusal ≡ 0 → (b : Book) × (read_sheet s ≡ written b)
accepted s out z = by (read_sheet s) refl
  where
    by : (o : Outcome) → read_sheet s ≡ o → (b : Book) × (read_sheet s ≡ written b)
    by (refused k i) e = absurd (refused_number s k i e (sym (ap (λ (w : Written). w.refusal) (refused_result out (read_sheet s) k i e)) ∙ z))
    by (written b) e = (b, e)

-- The text is never longer than the sheet (refused, its length is 0).
pub no_longer : (s out : List ℕ) → (result s out).length ≤ length s
no_longer s out = by (read_sheet s) refl
  where
    fits : (b : Book) → read_sheet s ≡ written b → Dec (length out < length (text_of b)) → (result s out).length ≤ length s
    fits b e (yes l) = let r = ap (λ (w : Written). w.length) (short_result out (read_sheet s) b e l) in omega arith
    fits b e (no n) =
        let r = ap (λ (w : Written). w.length) (written_result out (read_sheet s) b e (omega arith)) in
        let l = text_shorter s b e in
        omega arith

    by : (o : Outcome) → read_sheet s ≡ o → (result s out).length ≤ length s
    by (refused k i) e = let r = ap (λ (w : Written). w.length) (refused_result out (read_sheet s) k i e) in omega arith
    by (written b) e = fits b e (dec_lt (length out) (length (text_of b)))

module _ (s out : List ℕ) (z : (result s out).refusal ≡ 0) where
  -- Reading the written text gives what the sheet gave: the same counts, names, rules, start and goal.
  pub reads_back : read_sheet (text_in s out) ≡ read_sheet s
  reads_back =
      let (b, e) = accepted s out z in
      ap read_sheet (text_in_is s b e out z) ∙ book_back s b e ∙ sym e

  -- Writing the written text says and leaves, over any buffer, what writing the sheet does.
  pub same_writing : (out' : List ℕ) → (result (text_in s out) out' ≡ result s out') × (output (text_in s out) out' ≡ output s out')
  same_writing out' = (ap (written_in (length out')) reads_back, ap (out_after out') reads_back)

  -- Writing the written text changes nothing.
  pub settled : (out' : List ℕ) → (result (text_in s out) out').refusal ≡ 0 → text_in (text_in s out) out' ≡ text_in s out
  settled out' y =
      let (b, e) = accepted s out z in
      text_in_is (text_in s out) b (reads_back ∙ e) out' y ∙ sym (text_in_is s b e out z)

-- ---- alike exactly when these agree
agreed : (b c : Book) → Agree b c → b ≡ c
agreed b c a =
    ap (λ (f : List (List ℕ)). of f b.names.actions b.rules b.start b.goal) a.fluents
    ∙ ap (λ (f : List (List ℕ)). of c.names.fluents f b.rules b.start b.goal) a.actions
    ∙ ap (λ (r : List (List ℕ)). of c.names.fluents c.names.actions r b.start b.goal) a.rules
    ∙ ap (λ (d : State). of c.names.fluents c.names.actions c.rules d b.goal) a.start
    ∙ ap (λ (g : List ℕ). of c.names.fluents c.names.actions c.rules c.start g) a.goal
  where
    of : List (List ℕ) → List (List ℕ) → List (List ℕ) → State → List ℕ → Book
    of f a r d g = record { names = record { fluents = f; actions = a }; rules = r; start = d; goal = g }

agrees : (b c : Book) → b ≡ c → Agree b c
agrees b c e = subst (Agree b) e (record { fluents = refl; actions = refl; rules = refl; start = refl; goal = refl })

same_book : {b c : Book} → written b ≡ written c → b ≡ c
same_book e = cc

-- Two accepted sheets come out alike exactly when they agree.
pub alike : (s t out out' : List ℕ) (b c : Book) → read_sheet s ≡ written b → read_sheet t ≡ written c
    → (result s out).refusal ≡ 0 → (result t out').refusal ≡ 0 → (text_in s out ≡ text_in t out') ↔ Agree b c
alike s t out out' b c e f y z =
    let x = text_in_is s b e out y in
    let w = text_in_is t c f out' z in (
      λ h. agrees b c (same_book (sym (book_back s b e) ∙ ap read_sheet (sym x ∙ h ∙ w) ∙ book_back t c f)),
      λ a. x ∙ ap text_of (agreed b c a) ∙ sym w,
    )
