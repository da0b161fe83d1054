-- The book of every accepted sheet is valid: each accepted line keeps it so. Assumes nothing.
use mathlib.Core.Path.{◌≡◌, refl, subst, subst⁻¹}
use mathlib.Core.List.{List, [], ◌∷◌, ◌++◌}
use Prim.Native.Nat.{ℕ, ◌+◌, ◌≤◌, ◌<◌}
use native.Mathlib.Omega.{arith}
use native.Mathlib.Decide.{dec_lt}
use lib.Pow.{pow_pos, pow_mono}
use lib.ListN.{length, get_or, drop, length-append, length-drop, get_or-append}
use lib.Seq.{get_or-append_seam}
use Rattle.chars.specs.Pieces.{lines, fields}
use Rattle.fields.specs.Book.{Book, Symbols, rule_words, with_names, with_rule}
use Rattle.lines.specs.declared.Word.{Word}
use Rattle.lines.specs.Line.{Reading, empty, word_of}
use Rattle.lines.specs.Reader.{read_sheet, written}
use Rattle.lines.proofs.Readings.{whole}
use Rattle.sheet.proofs.AcceptedLines.{Accepted, fluent, action, rule, start, goal, accepted_text, AllRead, done, more, record_lines, sheet_records}
use Rattle.sheet.proofs.Valid.{Valid, GoodSteps, GoodRule, steps_more, rule_more, used_below, body_good, start_below}

-- one element more makes a list longer by one
one_more : {A : Type 0} (xs : List A) (x : A) → length (xs ++ (x ∷ [])) ≡ length xs + 1
one_more xs x = length-append xs (x ∷ [])

-- good rules and one good rule more are good rules
rules_more : (f a : ℕ) (rs : List (List ℕ)) (r : List ℕ) → ((i : ℕ) → i < length rs → GoodRule f a (get_or rs i [])) → GoodRule f a r → (i : ℕ) → i < length (rs ++ (r ∷ [])) → GoodRule f a (get_or (rs ++ (r ∷ [])) i [])
rules_more f a rs r g h i l = by (dec_lt i (length rs))
  where
    by : Dec (i < length rs) → GoodRule f a (get_or (rs ++ (r ∷ [])) i [])
    by (yes k) = rw (get_or-append rs (r ∷ []) [] i k) (g i k)
    by (no k) =
        let n = one_more rs r in
        let e : i ≡ length rs = omega arith in
        rw (e, get_or-append_seam rs r [] []) h

-- each accepted line keeps a valid book valid
module _ (b : Book) (v : Valid b) where
  -- more names keep rules, goal and start good
  module _ (y : Symbols) (p : length b.names.fluents ≤ length y.fluents) (q : length b.names.actions ≤ length y.actions) where
    named : length y.fluents ≤ 64 → length y.actions ≤ 64 → Valid (with_names b y.fluents y.actions)
    named i j = record {
      few_fluents = i;
      few_actions = j;
      few_rules = v.few_rules;
      rules = λ r l. rule_more _ _ _ _ p q (get_or b.rules r []) (v.rules r l);
      goal = steps_more _ _ _ _ p q b.goal v.goal;
      start = omega (arith, v.start, pow_mono p);
    }

  -- a fluent more, where there were fewer than 64
  valid_fluent : (name : List ℕ) → length b.names.fluents < 64 → Valid (with_names b (b.names.fluents ++ (name ∷ [])) b.names.actions)
  valid_fluent name l =
      let n = one_more b.names.fluents name in
      named (record { fluents = b.names.fluents ++ (name ∷ []); actions = b.names.actions }) (omega arith) (omega arith) (omega arith) v.few_actions

  -- an action more, where there were fewer than 64
  valid_action : (name : List ℕ) → length b.names.actions < 64 → Valid (with_names b b.names.fluents (b.names.actions ++ (name ∷ [])))
  valid_action name l =
      let n = one_more b.names.actions name in
      named (record { fluents = b.names.fluents; actions = b.names.actions ++ (name ∷ []) }) (omega arith) (omega arith) v.few_fluents (omega arith)

  -- a good rule more, where there were fewer than 256
  valid_rule : (head : ℕ) (steps : List ℕ) → length b.rules < 256 → head < length b.names.actions → GoodSteps (length b.names.fluents) (length b.names.actions) steps → Valid (with_rule b head steps)
  valid_rule head steps l h g =
      let n = one_more b.rules (rule_words head steps) in
      record {
        few_fluents = v.few_fluents;
        few_actions = v.few_actions;
        few_rules = omega arith;
        rules = rules_more _ _ b.rules (rule_words head steps) v.rules (record { head = head; steps = steps; is = refl; action = h; good = g });
        goal = v.goal;
        start = v.start;
      }

-- a reading whose book is valid
abbrev pub ValidSoFar : Reading → Type 0
ValidSoFar r = Valid r.book

-- an accepted line, by its word
module _ (b : Reading) (v : ValidSoFar b) where
  pub valid_line : (next : Reading) (w : Word) (fs : List (List ℕ)) → Accepted b next fs w → ValidSoFar next
  valid_line next w fs (fluent l one e) = subst⁻¹ ValidSoFar e (valid_fluent b.book v (get_or fs 0 []) l)
  valid_line next w fs (action l e) = subst⁻¹ ValidSoFar e (valid_action b.book v (get_or fs 0 []) l)
  valid_line next w fs (rule head steps l n u s e) =
      let d = length-drop 1 fs in
      let g = body_good b.book.names v.few_fluents v.few_actions (drop 1 fs) steps (omega arith) s in
      subst⁻¹ ValidSoFar e (valid_rule b.book v head steps l (used_below b.book.names.actions (get_or fs 0 []) head u) g)
  valid_line next w fs (start state s e) =
      let l = start_below b.book.names fs 0 state (pow_pos (length b.book.names.fluents)) s in
      subst⁻¹ ValidSoFar e (record { few_fluents = v.few_fluents; few_actions = v.few_actions; few_rules = v.few_rules; rules = v.rules; goal = v.goal; start = l })
  valid_line next w fs (goal steps n s e) =
      let g = body_good b.book.names v.few_fluents v.few_actions fs steps n s in
      subst⁻¹ ValidSoFar e (record { few_fluents = v.few_fluents; few_actions = v.few_actions; few_rules = v.few_rules; rules = v.rules; goal = g; start = v.start })

-- accepted lines, from the top
valid_lines : (b last : Reading) (ls : List (List ℕ)) → ValidSoFar b → AllRead last b ls → ValidSoFar last
valid_lines b last [] v (done e) = subst ValidSoFar e v
valid_lines b last (l ∷ ls) v (more next h r) = valid_lines next last ls (valid_line b v next (word_of (get_or (fields l) 0 [])) (drop 1 (fields l)) (accepted_text b next l h)) r

-- the book before the first line
pub empty_valid : ValidSoFar empty
empty_valid = record { few_fluents = omega arith; few_actions = omega arith; few_rules = omega arith; rules = λ r l. absurd (omega arith); goal = record { few = omega arith; each = λ i l. absurd (omega arith) }; start = omega arith }

-- the book of an accepted sheet is valid
pub sheet_valid : (s : List ℕ) (b : Book) → read_sheet s ≡ written b → Valid b
sheet_valid s b e = valid_lines empty (whole b) (record_lines (lines s)) empty_valid (sheet_records s b e)
