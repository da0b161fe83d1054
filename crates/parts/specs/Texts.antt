-- The text out of parts in a list. Assumes nothing.
use Rattle.std.specs.Prelude.{ℕ, ◌-◌, ◌≤◌, List, [], ◌∷◌, ◌++◌}
use Rattle.chars.specs.Bytes.{text, LF}
use Rattle.parts.specs.declared.Layout.{Layout}
use Rattle.parts.specs.Parts.{parts_from, wrapped}

-- The `start` line with these parts.
abbrev pub start_parts : List (List ℕ) → List ℕ
start_parts held = (text "start" ++ wrapped [] [] held) ++ (LF ∷ [])

-- The text of the parts of fluents, actions and rules, of the names that hold, and of the goal.
abbrev pub text_parts : List (List ℕ) → List (List ℕ) → List (List ℕ) → List (List ℕ) → List (List ℕ) → List ℕ
text_parts fluents actions rules held goal =
    wrapped (text "fluent") (LF ∷ []) fluents ++ (wrapped (text "action") (LF ∷ []) actions ++ (wrapped (text "rule") (LF ∷ []) rules
    ++ (start_parts held ++ wrapped (text "goal") (LF ∷ []) goal)))

-- The text of the parts in the list, those that hold up to `held`.
abbrev pub text_in : List ℕ → List ℕ → Layout → ℕ → List ℕ
text_in u list l held =
    text_parts (parts_from u list l.fluents.own (l.fluents.end - l.fluents.own))
    (parts_from u list l.actions.own (l.actions.end - l.actions.own))
    (parts_from u list l.rules.own (l.rules.end - l.rules.own))
    (parts_from u list l.end (held - l.end))
    (parts_from u list l.rules.end (l.end - l.rules.end))

-- The places of the parts in their order.
pub record Ordered (l : Layout) (held : ℕ) : Type 0 where
  pub fluents : (l.fluents.own ≤ l.fluents.end) × (l.fluents.end ≤ held)
  pub actions : (l.actions.own ≤ l.actions.end) × (l.actions.end ≤ held)
  pub rules : (l.rules.own ≤ l.rules.end) × (l.rules.end ≤ l.end)
  pub last : (l.end ≤ held) × (held ≤ 1280)
