-- The text of a book as lines, each ended by LF. Assumes nothing.
use Prim.Native.Nat.{ℕ}
use mathlib.Core.Path.{◌≡◌, ap, sym, ◌∙◌}
use mathlib.Core.List.{List, [], ◌∷◌, ◌++◌, map, append-nil, append_assoc}
use Rattle.chars.specs.Bytes.{text, LF}
use Rattle.fields.specs.Book.{Symbols, Book, joined}
use Rattle.writer.specs.Text.{tabbed, line_text, step_text, rule_fields, holding, text_of}
use Rattle.writer.proofs.Solid.{line_bytes, with_LF, text_of_lines}

-- the lines, by their words
abbrev pub fluent_line : List ℕ → List ℕ
fluent_line n = line_bytes (text "fluent") (n ∷ [])

abbrev pub action_line : List ℕ → List ℕ
action_line n = line_bytes (text "action") (n ∷ [])

abbrev pub rule_line : Symbols → List ℕ → List ℕ
rule_line y r = line_bytes (text "rule") (rule_fields y r)

abbrev pub start_line : Symbols → ℕ → List ℕ
start_line y s = line_bytes (text "start") (holding 0 s y.fluents)

abbrev pub goal_line : Symbols → List ℕ → List ℕ
goal_line y ws = line_bytes (text "goal") (map (step_text y) ws)

abbrev pub lines_of : Book → List (List ℕ)
lines_of b =
    map fluent_line b.names.fluents
    ++ (map action_line b.names.actions
    ++ (map (rule_line b.names) b.rules
    ++ (start_line b.names b.start ∷ goal_line b.names b.goal ∷ [])))

pub line_text_bytes : (w : List ℕ) (fs : List (List ℕ)) → line_text w fs ≡ with_LF (line_bytes w fs)
line_text_bytes w fs = sym (append_assoc w (tabbed fs) (LF ∷ []))

lines_joined : {A : Type 0} (g h : A → List ℕ) → ((x : A) → g x ≡ with_LF (h x)) → (xs : List A) (t : List ℕ) (rest : List (List ℕ)) → t ≡ text_of_lines rest → joined (map g xs) ++ t ≡ text_of_lines (map h xs ++ rest)
lines_joined g h e [] t rest k = k
lines_joined g h e (x ∷ xs) t rest k =
    append_assoc (g x) (joined (map g xs)) t
    ∙ ap (λ (l : List ℕ). l ++ (joined (map g xs) ++ t)) (e x)
    ∙ ap (λ (l : List ℕ). with_LF (h x) ++ l) (lines_joined g h e xs t rest k)

pub text_lines : (b : Book) → text_of b ≡ text_of_lines (lines_of b)
unfolding text_of
text_lines b =
    lines_joined (λ n. line_text (text "fluent") (n ∷ [])) fluent_line (λ n. line_text_bytes (text "fluent") (n ∷ [])) b.names.fluents _ _
    (lines_joined (λ n. line_text (text "action") (n ∷ [])) action_line (λ n. line_text_bytes (text "action") (n ∷ [])) b.names.actions _ _
    (lines_joined (λ r. line_text (text "rule") (rule_fields b.names r)) (rule_line b.names) (λ r. line_text_bytes (text "rule") (rule_fields b.names r)) b.rules _ _
    last))
  where
    last : line_text (text "start") (holding 0 b.start b.names.fluents) ++ line_text (text "goal") (map (step_text b.names) b.goal) ≡ text_of_lines (start_line b.names b.start ∷ goal_line b.names b.goal ∷ [])
    last =
        ap (λ (l : List ℕ). l ++ line_text (text "goal") (map (step_text b.names) b.goal)) (line_text_bytes (text "start") (holding 0 b.start b.names.fluents))
        ∙ ap (λ (l : List ℕ). with_LF (start_line b.names b.start) ++ l) (line_text_bytes (text "goal") (map (step_text b.names) b.goal) ∙ sym (append-nil (with_LF (goal_line b.names b.goal))))
