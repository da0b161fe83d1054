-- The book of every accepted sheet is proper. Assumes nothing.
use Prim.Native.Nat.{ℕ, ◌≤◌}
use native.Mathlib.Omega.{arith}
use mathlib.Core.Path.{◌≡◌, refl, ap, sym, ◌∙◌, subst, subst⁻¹}
use mathlib.Core.Bool.{false}
use mathlib.Core.List.{List, [], ◌∷◌, ◌++◌, append-nil, append_assoc}
use lib.ListN.{get_or, drop}
use Rattle.chars.specs.Pieces.{lines, fields}
use Rattle.fields.specs.Book.{Book}
use Rattle.lines.specs.declared.Word.{Word}
use Rattle.lines.specs.Line.{Reading, empty, word_of}
use Rattle.lines.specs.Reader.{read_sheet, written}
use Rattle.lines.proofs.Readings.{read_fluent, read_action, whole}
use Rattle.sheet.proofs.AcceptedLines.{AllRead, done, more, record_lines, sheet_records}
use Rattle.sheet.proofs.ValidSheets.{sheet_valid}
use Rattle.writer.proofs.NamesApart.{Adds, none, adds_snoc}
use Rattle.writer.proofs.Says.{Says, fluent, action, rule, start, goal, line_says}
use Rattle.writer.proofs.Proper.{Proper}

-- what the lines keep true: names apart, and nothing of a later word
pub record Staged (b : Reading) : Type 0 where
  pub named : Adds [] (b.book.names.fluents ++ b.book.names.actions)
  pub no_actions : b.stage ≤ 0 → b.book.names.actions ≡ []
  pub no_rules : b.stage ≤ 1 → b.book.rules ≡ []
  pub no_start : b.stage ≤ 3 → b.started ≡ false

pub empty_staged : Staged empty
empty_staged = record { named = none; no_actions = λ _. refl; no_rules = λ _. refl; no_start = λ _. refl }

module _ (b : Reading) (v : Staged b) where
  staged_fluent : (x : List ℕ) → b.stage ≤ 0 → Adds [] ((b.book.names.fluents ++ b.book.names.actions) ++ (x ∷ [])) → Staged (read_fluent b x)
  staged_fluent x h a =
      let e = v.no_actions h in
      let g : (b.book.names.fluents ++ b.book.names.actions) ++ (x ∷ []) ≡ (b.book.names.fluents ++ (x ∷ [])) ++ b.book.names.actions =
      rw e (ap (λ (l : List (List ℕ)). l ++ (x ∷ [])) (append-nil b.book.names.fluents) ∙ sym (append-nil (b.book.names.fluents ++ (x ∷ [])))) in
      record { named = subst (Adds []) g a; no_actions = λ _. e; no_rules = λ _. v.no_rules (omega arith); no_start = λ _. v.no_start (omega arith) }

  staged_action : (x : List ℕ) → b.stage ≤ 1 → Adds [] ((b.book.names.fluents ++ b.book.names.actions) ++ (x ∷ [])) → Staged (read_action b x)
  staged_action x h a = record { named = subst (Adds []) (append_assoc b.book.names.fluents b.book.names.actions (x ∷ [])) a; no_actions = λ k. absurd (omega arith); no_rules = λ _. v.no_rules h; no_start = λ _. v.no_start (omega arith) }

  pub staged_line : (next : Reading) (w : Word) (fs : List (List ℕ)) → Says b next fs w → Staged next
  staged_line next w fs (fluent x h e n a q) = subst⁻¹ Staged q (staged_fluent x h (adds_snoc [] (b.book.names.fluents ++ b.book.names.actions) x v.named n a))
  staged_line next w fs (action x h e n a q) = subst⁻¹ Staged q (staged_action x h (adds_snoc [] (b.book.names.fluents ++ b.book.names.actions) x v.named n a))
  staged_line next w fs (rule f gs head steps h e u t q) = subst⁻¹ Staged q (record { named = v.named; no_actions = λ k. absurd (omega arith); no_rules = λ k. absurd (omega arith); no_start = λ _. v.no_start (omega arith) })
  staged_line next w fs (start state h e q) = subst⁻¹ Staged q (record { named = v.named; no_actions = λ k. absurd (omega arith); no_rules = λ k. absurd (omega arith); no_start = λ k. absurd (omega arith) })
  staged_line next w fs (goal steps h e q) = subst⁻¹ Staged q (record { named = v.named; no_actions = λ k. absurd (omega arith); no_rules = λ k. absurd (omega arith); no_start = λ k. absurd (omega arith) })

staged_lines : (b last : Reading) (ls : List (List ℕ)) → Staged b → AllRead last b ls → Staged last
staged_lines b last [] v (done e) = subst Staged e v
staged_lines b last (l ∷ ls) v (more next h r) = staged_lines next last ls (staged_line b v next (word_of (get_or (fields l) 0 [])) (drop 1 (fields l)) (line_says b next l h)) r

pub sheet_proper : (s : List ℕ) (b : Book) → read_sheet s ≡ written b → Proper b
sheet_proper s b e = record {
  valid = sheet_valid s b e;
  named = (staged_lines empty (whole b) (record_lines (lines s)) empty_staged (sheet_records s b e)).named;
}
