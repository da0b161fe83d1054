-- The words of an accepted sheet decode to what it writes: a step word to the step of its field, 18 words of a rule to its head and steps. Assumes nothing.
use mathlib.Core.Path.{◌≡◌, refl, ap, sym, ◌∙◌, subst}
use mathlib.Core.Bool.{Bool, true, false, cond}
use mathlib.Core.List.{List, [], ◌∷◌, ◌++◌, append_assoc, Forall₂}
use Prim.Native.Nat.{ℕ, zero, suc, ◌+◌, ◌-◌, ◌*◌, ◌/◌, ◌%◌, ◌≤◌, ◌<◌}
use native.Mathlib.Omega.{arith}
use lib.Dec.{ltb, eqb}
use lib.ListN.{length, get_or, take, drop, replicate}
use lib.Seq.{take-append_seam, drop-drop, get_or-drop}
use borrow.Author.Tests.{ltb-true, eqb-true}
use Rattle.refusals.specs.Sheet.{line_refusals}
use Rattle.steps.specs.Step.{Step, query, insert, delete, call, deny}
use Rattle.steps.specs.Words.{step_by, step_of, body_of}
use Rattle.steps.specs.Widths.{rule_width}
use Rattle.steps.specs.Inner.{rule_of}
use Rattle.chars.specs.Bytes.{text, is_name}
use Rattle.chars.specs.Places.{place, place_after, among, byte_at}
use Rattle.fields.specs.Verdict.{accept, ◌>>=◌}
use Rattle.fields.specs.Book.{Symbols, padded, rule_words}
use Rattle.fields.specs.Field.{marks, names_of, used_name, step_word, step_words}
use Rattle.fields.specs.Held.{step_from}
use Rattle.fields.proofs.Verdicts.{followed, required, same_value, not_both}
use Rattle.sheet.proofs.AcceptedLines.{judged_accepted}
use Rattle.sheet.proofs.Valid.{used_below}

-- The step that a field writes: `?`, `+`, `-` (query, insert, delete of a fluent), `!` (call) or `~` (denial of a fluent), then a name. Its index is the name's place among the fluents, for a call among the actions.
pub data Writes (y : Symbols) (field : List ℕ) (step : Step) : Type 0 where
  queries : (name : List ℕ) → field ≡ text "?" ++ name → step ≡ query (place name y.fluents) → Writes y field step
  inserts : (name : List ℕ) → field ≡ text "+" ++ name → step ≡ insert (place name y.fluents) → Writes y field step
  deletes : (name : List ℕ) → field ≡ text "-" ++ name → step ≡ delete (place name y.fluents) → Writes y field step
  calls : (name : List ℕ) → field ≡ text "!" ++ name → step ≡ call (place name y.actions) → Writes y field step
  denies : (name : List ℕ) → field ≡ text "~" ++ name → step ≡ deny (place name y.fluents) → Writes y field step

-- the byte at its own place
pub byte_is : (b : ℕ) (bs : List ℕ) → byte_at b bs < length bs → get_or bs (byte_at b bs) 0 ≡ b
unfolding byte_at
byte_is b [] l = absurd (omega arith)
byte_is b (x ∷ xs) l = by (eqb x b) refl (byte_is b xs) l
  where
    by : (t : Bool) → eqb x b ≡ t → (byte_at b xs < length xs → get_or xs (byte_at b xs) 0 ≡ b) → place_after t (byte_at b xs) < suc (length xs) → get_or (x ∷ xs) (place_after t (byte_at b xs)) 0 ≡ b
    by true e h k = eqb-true x b e
    by false e h k = h (omega arith)

-- a used name's number is its place
pub used_place : (names : List (List ℕ)) (f : List ℕ) (k : ℕ) → used_name names f ≡ accept k → k ≡ place f names
unfolding used_name
used_place names f k e = sym (judged_accepted (is_name f) true (among f names) (place f names) k e).value

-- 256 times kind plus index
word_step : (kind index : ℕ) → index < 256 → step_of (256 * kind + index) ≡ step_by kind index
word_step kind index l =
    let d : (256 * kind + index) / 256 ≡ kind = omega arith in
    let m : (256 * kind + index) % 256 ≡ index = omega arith in
    rw (d, m)

module _ (y : Symbols) (few_fluents : length y.fluents ≤ 64) (few_actions : length y.actions ≤ 64) where
  -- the kinds, by their marks
  by_kind : (kind mark : ℕ) (name : List ℕ) (step : Step) → kind < 5 → get_or marks kind 0 ≡ mark → step ≡ step_by kind (place name (names_of y kind)) → Writes y (mark ∷ name) step
  unfolding step_by
  by_kind zero mark name step l m e = queries name (ap (λ (b : ℕ). b ∷ name) (sym m)) e
  by_kind (suc zero) mark name step l m e = inserts name (ap (λ (b : ℕ). b ∷ name) (sym m)) e
  by_kind (suc (suc zero)) mark name step l m e = deletes name (ap (λ (b : ℕ). b ∷ name) (sym m)) e
  by_kind (suc (suc (suc zero))) mark name step l m e = calls name (ap (λ (b : ℕ). b ∷ name) (sym m)) e
  by_kind (suc (suc (suc (suc zero)))) mark name step l m e = denies name (ap (λ (b : ℕ). b ∷ name) (sym m)) e
  by_kind (suc (suc (suc (suc (suc k))))) mark name step l m e = absurd (omega arith)

  few_names : (kind : ℕ) → length (names_of y kind) ≤ 64
  few_names kind = by (eqb kind 3)
    where
      by : (t : Bool) → length (cond t y.actions y.fluents) ≤ 64
      by true = few_actions
      by false = few_fluents

  -- an accepted step word decodes to the step that its field writes
  pub step_decoded : (f : List ℕ) (w : ℕ) → step_word y f ≡ accept w → Writes y f (step_of w)
  unfolding step_word
  step_decoded [] w e = absurd (not_both line_refusals.bad_field w e)
  step_decoded (mark ∷ name) w e =
      let kind = byte_at mark marks in
      let (k, r) = required (ltb kind 5) line_refusals.bad_field (λ _. step_from kind (used_name (names_of y kind) name)) w e in
      let (index, u, v) = followed (used_name (names_of y kind) name) (λ index. accept (256 * kind + index)) w r in
      let few = few_names kind in
      let low = used_below (names_of y kind) name index u in
      let d = word_step kind index (omega arith) ∙ ap (step_by kind) (used_place (names_of y kind) name index u) in
      by_kind kind mark name (step_of w) (ltb-true kind 5 k) (byte_is mark marks (ltb-true kind 5 k)) (ap step_of (sym (same_value v)) ∙ d)

  -- and so do the words of a body, fields from the left
  pub steps_decoded : (fs : List (List ℕ)) (ws : List ℕ) → step_words y fs ≡ accept ws → Forall₂ (Writes y) fs (body_of ws)
  unfolding step_words
  steps_decoded [] ws e = subst (λ (x : List ℕ). Forall₂ (Writes y) [] (body_of x)) (same_value e) Forall₂.nil
  steps_decoded (f ∷ fs) ws e =
      let (w, u, r) = followed (step_word y f) (λ w. step_words y fs >>= (λ us. accept (w ∷ us))) ws e in
      let (us, v, t) = followed (step_words y fs) (λ us. accept (w ∷ us)) ws r in
      subst (λ (x : List ℕ). Forall₂ (Writes y) (f ∷ fs) (body_of x)) (same_value t) (Forall₂.cons (step_decoded f w u) (steps_decoded fs us v))

-- the rule of 18 words that stand at rule r
pub rule_at : (words : List ℕ) (r head : ℕ) (steps rest : List ℕ) → drop (rule_width * r) words ≡ rule_words head steps ++ rest → rule_of words r ≡ record { head = head; body = body_of steps }
rule_at words r head steps rest e =
    let z : rule_width * r + 0 ≡ rule_width * r = omega arith in
    let h : get_or words (rule_width * r) 0 ≡ head = ap (λ (i : ℕ). get_or words i 0) (sym z) ∙ sym (get_or-drop (rule_width * r) words 0 0) ∙ ap (λ (l : List ℕ). get_or l 0 0) e in
    let n : get_or words (rule_width * r + 1) 0 ≡ length steps = sym (get_or-drop (rule_width * r) words 1 0) ∙ ap (λ (l : List ℕ). get_or l 1 0) e in
    let d : drop (rule_width * r + 2) words ≡ padded steps ++ rest = sym (drop-drop 2 (rule_width * r) words) ∙ ap (drop 2) e in
    let t = ap (take (length steps)) (append_assoc steps (replicate (16 - length steps) 0) rest) ∙ take-append_seam steps (replicate (16 - length steps) 0 ++ rest) in
    rw (h, n, d, t)
