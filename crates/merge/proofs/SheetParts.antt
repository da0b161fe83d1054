-- What stands behind the words of an accepted sheet: the names, the rules and the goal of its book. Assumes nothing.
use Prim.Native.Nat.{ℕ}
use mathlib.Core.Path.{◌≡◌, refl, ap, sym, ◌∙◌}
use mathlib.Core.Bool.{Bool, true, false, cond}
use mathlib.Core.List.{List, [], ◌∷◌, ◌++◌, map, append-nil, append_assoc}
use lib.ListN.{length, get_or, drop}
use lib.Seq.{drop-append_seam}
use borrow.Author.Tests.{eqb-true}
use Rattle.steps.proofs.EachBelow.{true_not_false}
use Rattle.chars.specs.Bytes.{text, TAB, HASH, begins}
use Rattle.chars.specs.Pieces.{pieces, grow, lines, fields, bare}
use Rattle.chars.specs.Places.{same}
use Rattle.fields.specs.Book.{Symbols, Book}
use Rattle.lines.specs.Reader.{read_sheet, written}
use Rattle.sheet.proofs.AcceptedLines.{record_lines}
use Rattle.writer.specs.Text.{tabbed, step_text, rule_fields, holding}
use Rattle.writer.proofs.Solid.{line_bytes}
use Rattle.writer.proofs.NamesApart.{same_self}
use Rattle.writer.proofs.Undoing.{same_eq}
use Rattle.writer.proofs.TextLines.{fluent_line, action_line, rule_line, start_line}
use Rattle.writer.proofs.Backward.{rewritten, lines_are}
use Rattle.parts.specs.Parts.{behind_word, section}

-- a name behind its tab, a rule behind its word
abbrev pub tab : List ℕ → List ℕ
tab n = TAB ∷ n

abbrev pub rule_tail : Symbols → List ℕ → List ℕ
rule_tail y r = tabbed (rule_fields y r)

-- the record words but `start`
pub data Recorded : List ℕ → Type 0 where
  fluent : Recorded (text "fluent")
  action : Recorded (text "action")
  rule : Recorded (text "rule")
  goal : Recorded (text "goal")

-- ---- comments have none of these words
unlike : (w : List ℕ) → Recorded w → (fs : List (List ℕ)) → same (get_or (grow HASH fs) 0 []) w ≡ false
unfolding same
unlike w fluent [] = refl
unlike w fluent (f ∷ fs) = refl
unlike w action [] = refl
unlike w action (f ∷ fs) = refl
unlike w rule [] = refl
unlike w rule (f ∷ fs) = refl
unlike w goal [] = refl
unlike w goal (f ∷ fs) = refl

comment_other : (w : List ℕ) → Recorded w → (l : List ℕ) → begins HASH l ≡ true → same (get_or (fields (bare l)) 0 []) w ≡ false
unfolding fields bare pieces
comment_other w k [] h = absurd (true_not_false (sym h))
comment_other w k (x ∷ []) h = rw (eqb-true x HASH h) (unlike w k ([] ∷ []))
comment_other w k (x ∷ y ∷ ys) h = rw (eqb-true x HASH h) (unlike w k (pieces ([] ∷ []) TAB (bare (y ∷ ys))))

-- ---- the words of lines
-- the first field of a line of this word
abbrev First : List ℕ → Type 0
First u = (fs : List (List ℕ)) → get_or (fields (line_bytes u fs)) 0 [] ≡ u

first_fluent : First (text "fluent")
unfolding fields pieces
first_fluent [] = refl
first_fluent (f ∷ fs) = refl

first_action : First (text "action")
unfolding fields pieces
first_action [] = refl
first_action (f ∷ fs) = refl

first_rule : First (text "rule")
unfolding fields pieces
first_rule [] = refl
first_rule (f ∷ fs) = refl

first_start : First (text "start")
unfolding fields pieces
first_start [] = refl
first_start (f ∷ fs) = refl

first_goal : First (text "goal")
unfolding fields pieces
first_goal [] = refl
first_goal (f ∷ fs) = refl

-- ---- of record lines
abbrev behind : List ℕ → List ℕ → List (List ℕ)
behind w l = cond (same (get_or (fields l) 0 []) w) (drop (length w) l ∷ []) []

abbrev parts : List ℕ → List (List ℕ) → List (List ℕ)
parts w [] = []
parts w (l ∷ ls) = behind w l ++ parts w ls

parts_append : (w : List ℕ) (ls ms : List (List ℕ)) → parts w (ls ++ ms) ≡ parts w ls ++ parts w ms
parts_append w [] ms = refl
parts_append w (l ∷ ls) ms = ap (λ (x : List (List ℕ)). behind w l ++ x) (parts_append w ls ms) ∙ sym (append_assoc (behind w l) (parts w ls) (parts w ms))

behind_not : (w l : List ℕ) → same (get_or (fields l) 0 []) w ≡ false → behind w l ≡ []
behind_not w l h = ap (λ (v : Bool). cond v (drop (length w) l ∷ []) []) h

records_parts : (w : List ℕ) → Recorded w → (ls : List (List ℕ)) → section w ls ≡ parts w (record_lines ls)
unfolding section behind_word
records_parts w k [] = refl
records_parts w k (l ∷ ls) = by (begins HASH l) refl (records_parts w k ls)
  where
    by : (t : Bool) → begins HASH l ≡ t → section w ls ≡ parts w (record_lines ls) → behind w (bare l) ++ section w ls ≡ parts w (cond t (record_lines ls) (bare l ∷ record_lines ls))
    by true h r = ap (λ (x : List (List ℕ)). x ++ section w ls) (behind_not w (bare l) (comment_other w k l h)) ∙ r
    by false h r = ap (λ (x : List (List ℕ)). behind w (bare l) ++ x) r

no_start : (w : List ℕ) → Recorded w → same (text "start") w ≡ false
unfolding same
no_start w fluent = refl
no_start w action = refl
no_start w rule = refl
no_start w goal = refl

-- `start` rewritten has none of these words
rewritten_parts : (w : List ℕ) → Recorded w → (b : Book) (ls : List (List ℕ)) → parts w (map (rewritten b) ls) ≡ parts w ls
unfolding rewritten
rewritten_parts w k b [] = refl
rewritten_parts w k b (l ∷ ls) = ap (λ (x : List (List ℕ)). x ++ parts w (map (rewritten b) ls)) one ∙ ap (λ (x : List (List ℕ)). behind w l ++ x) (rewritten_parts w k b ls)
  where
    other : (f : List ℕ) → f ≡ text "start" → same f w ≡ false
    other f e = ap (λ (x : List ℕ). same x w) e ∙ no_start w k

    by : (v : Bool) → same (get_or (fields l) 0 []) (text "start") ≡ v → behind w (cond v (start_line b.names b.start) l) ≡ behind w l
    by true h =
        behind_not w (start_line b.names b.start) (other _ (first_start (holding 0 b.start b.names.fluents)))
        ∙ sym (behind_not w l (other _ (same_eq (get_or (fields l) 0 []) (text "start") h)))
    by false h = refl

    one : behind w (rewritten b l) ≡ behind w l
    one = by (same (get_or (fields l) 0 []) (text "start")) refl

-- lines of one word
module _ {A : Type 0} (w u : List ℕ) (first : First u) (g : A → List (List ℕ)) where
  parts_other : same u w ≡ false → (xs : List A) → parts w (map (λ x. line_bytes u (g x)) xs) ≡ []
  parts_other h [] = refl
  parts_other h (x ∷ xs) =
      ap (λ (z : List (List ℕ)). z ++ parts w (map (λ x. line_bytes u (g x)) xs)) (behind_not w (line_bytes u (g x)) (ap (λ (f : List ℕ). same f w) (first (g x)) ∙ h))
      ∙ parts_other h xs

module _ {A : Type 0} (u : List ℕ) (first : First u) (g : A → List (List ℕ)) where
  parts_own : (xs : List A) → parts u (map (λ x. line_bytes u (g x)) xs) ≡ map (λ x. tabbed (g x)) xs
  parts_own [] = refl
  parts_own (x ∷ xs) =
      ap (λ (v : Bool). cond v (drop (length u) (line_bytes u (g x)) ∷ []) [] ++ parts u (map (λ x. line_bytes u (g x)) xs)) (ap (λ (f : List ℕ). same f u) (first (g x)) ∙ same_self u)
      ∙ ap (λ (z : List ℕ). z ∷ parts u (map (λ x. line_bytes u (g x)) xs)) (drop-append_seam u (tabbed (g x)))
      ∙ ap (λ (z : List (List ℕ)). tabbed (g x) ∷ z) (parts_own xs)

-- ---- of an accepted sheet
module _ (s : List ℕ) (b : Book) (e : read_sheet s ≡ written b) where
  abbrev F : List (List ℕ)
  F = map fluent_line b.names.fluents

  abbrev C : List (List ℕ)
  C = map action_line b.names.actions

  abbrev R : List (List ℕ)
  R = map (rule_line b.names) b.rules

  abbrev S : List (List ℕ)
  S = map (λ (x : ℕ). line_bytes (text "start") (holding 0 x b.names.fluents)) (b.start ∷ [])

  abbrev G : List (List ℕ)
  G = map (λ (x : List ℕ). line_bytes (text "goal") (map (step_text b.names) x)) (b.goal ∷ [])

  five : (w : List ℕ) → Recorded w → section w (lines s) ≡ parts w F ++ (parts w C ++ (parts w R ++ (parts w S ++ parts w G)))
  five w k =
      records_parts w k (lines s) ∙ sym (rewritten_parts w k b (record_lines (lines s))) ∙ ap (parts w) (sym (lines_are s b e))
      ∙ parts_append w F (C ++ (R ++ (S ++ G)))
      ∙ ap (λ (x : List (List ℕ)). parts w F ++ x) (parts_append w C (R ++ (S ++ G)))
      ∙ ap (λ (x : List (List ℕ)). parts w F ++ (parts w C ++ x)) (parts_append w R (S ++ G))
      ∙ ap (λ (x : List (List ℕ)). parts w F ++ (parts w C ++ (parts w R ++ x))) (parts_append w S G)

  abbrev one : List ℕ → List (List ℕ)
  one n = n ∷ []

  tabs : (xs : List (List ℕ)) → map (λ x. tabbed (one x)) xs ≡ map tab xs
  tabs [] = refl
  tabs (x ∷ xs) = ap (λ (z : List ℕ). z ∷ map (λ x. tabbed (one x)) xs) (append-nil (tab x)) ∙ ap (λ (z : List (List ℕ)). tab x ∷ z) (tabs xs)

  no_F : (w : List ℕ) → same (text "fluent") w ≡ false → parts w F ≡ []
  no_F w h = parts_other w (text "fluent") first_fluent one h b.names.fluents

  no_C : (w : List ℕ) → same (text "action") w ≡ false → parts w C ≡ []
  no_C w h = parts_other w (text "action") first_action one h b.names.actions

  no_R : (w : List ℕ) → same (text "rule") w ≡ false → parts w R ≡ []
  no_R w h = parts_other w (text "rule") first_rule (rule_fields b.names) h b.rules

  no_S : (w : List ℕ) → same (text "start") w ≡ false → parts w S ≡ []
  no_S w h = parts_other w (text "start") first_start (λ (x : ℕ). holding 0 x b.names.fluents) h (b.start ∷ [])

  no_G : (w : List ℕ) → same (text "goal") w ≡ false → parts w G ≡ []
  no_G w h = parts_other w (text "goal") first_goal (map (step_text b.names)) h (b.goal ∷ [])

  pub fluent_parts : section (text "fluent") (lines s) ≡ map tab b.names.fluents
  unfolding same
  fluent_parts =
      five (text "fluent") fluent
      ∙ rw (no_C (text "fluent") refl, no_R (text "fluent") refl, no_S (text "fluent") refl, no_G (text "fluent") refl, parts_own (text "fluent") first_fluent one b.names.fluents, tabs b.names.fluents) (append-nil (map tab b.names.fluents))

  pub action_parts : section (text "action") (lines s) ≡ map tab b.names.actions
  unfolding same
  action_parts =
      five (text "action") action
      ∙ rw (no_F (text "action") refl, no_R (text "action") refl, no_S (text "action") refl, no_G (text "action") refl, parts_own (text "action") first_action one b.names.actions, tabs b.names.actions) (append-nil (map tab b.names.actions))

  pub rule_parts : section (text "rule") (lines s) ≡ map (rule_tail b.names) b.rules
  unfolding same
  rule_parts =
      five (text "rule") rule
      ∙ rw (no_F (text "rule") refl, no_C (text "rule") refl, no_S (text "rule") refl, no_G (text "rule") refl, parts_own (text "rule") first_rule (rule_fields b.names) b.rules) (append-nil (map (rule_tail b.names) b.rules))

  pub goal_parts : section (text "goal") (lines s) ≡ tabbed (map (step_text b.names) b.goal) ∷ []
  unfolding same
  goal_parts =
      five (text "goal") goal
      ∙ rw (no_F (text "goal") refl, no_C (text "goal") refl, no_R (text "goal") refl, no_S (text "goal") refl, parts_own (text "goal") first_goal (map (step_text b.names)) (b.goal ∷ [])) refl
