-- The drills about sheets, and each refusal from 10 to 19, computed from the definition. Assumes nothing.
use mathlib.Core.Path.{◌≡◌, refl}
use mathlib.Core.List.{List, [], ◌∷◌, ◌++◌, map}
use Prim.Native.Nat.{ℕ, zero, suc, ◌<◌}
use native.Mathlib.Omega.{arith}
use lib.ListN.{length, replicate, length-replicate}
use borrow.Author.Tests.{lt-leb}
use Rattle.refusals.specs.Sheet.{sheet_refusals}
use Rattle.chars.specs.Bytes.{text, LF}
use Rattle.fields.specs.Book.{padded, rule_words}
use Rattle.lines.specs.Reader.{read_sheet, whole_sheet, refused}
use Rattle.naming.specs.Spans.{nowhere}
use Rattle.sheet.specs.declared.Sheet.{Sheet}
use Rattle.sheet.specs.Result.{refusal, result_of, rules_after}
use Rattle.sheet.specs.FluentName.{name_span}
use Rattle.sheet.proofs.Results.{sheet_fault}

-- A sheet, the count of rule words lent, and the reader's result.
pub record Drill : Type 0 where
  pub sheet : List ℕ
  pub room : ℕ
  pub result : Sheet

-- a sheet that is refused, whatever is lent
abbrev refuses : List ℕ → ℕ → ℕ → Drill
refuses sheet number line = record { sheet = sheet; room = 0; result = refusal number line }

-- a sheet of fluents and a goal, with no action and no rule
abbrev reads : List ℕ → ℕ → ℕ → List ℕ → Drill
reads sheet fluents start goal = record { sheet = sheet; room = 0; result = record { refusal = 0; line = 0; fluents = fluents; actions = 0; rules = 0; start = start; goal_len = length goal; goal = padded goal } }

-- the sheet that document 01 prints
abbrev example : List ℕ
example = text "fluent\topen\nfluent\tlit\naction\tpurge\naction\tlight\nrule\tpurge\t+open\nrule\tlight\t!purge\t?open\t+lit\t-open\nstart\ngoal\t!light\n"

-- n steps `+a`, each after its tab
abbrev steps : ℕ → List ℕ
steps zero = []
steps (suc n) = text "\t+a" ++ steps n

-- sheets with a rule, and with a goal, of n steps
abbrev rule_of : ℕ → List ℕ
rule_of n = text "fluent\ta\naction\tg\nrule\tg" ++ steps n ++ text "\nstart\ngoal\n"

abbrev goal_of : ℕ → List ℕ
goal_of n = text "fluent\ta\nstart\ta\ngoal" ++ steps n ++ text "\n"

-- a name of 16 bytes
abbrev sixteen : List ℕ
sixteen = text "fluent\tabcdefghijklmnop\nstart\ngoal\n"

pub drills : List Drill
drills =
    record { sheet = example; room = 36; result = record { refusal = 0; line = 0; fluents = 2; actions = 2; rules = 2; start = 0; goal_len = 1; goal = padded (769 ∷ []) } }
    -- 10 has a law of its own below
    ∷ refuses (text "fluent a\n") 11 0
    ∷ refuses (text "goal") 12 0
    -- a blank line (D12); a second `start`; a `start` below the goal
    ∷ refuses (text "\n") 13 1
    ∷ refuses (text "start\nstart\n") 13 2
    ∷ refuses (text "start\ngoal\nstart\n") 13 3
    -- a rule and a goal of 17 steps (D13), and before their fields are judged
    ∷ refuses (rule_of 17) 17 3
    ∷ refuses (goal_of 17) 17 3
    ∷ refuses (text "goal\t\t\t\t\t\t\t\t\t\t\t\t\t\t\t\t\t\n") 17 1
    -- `goal` and a tab with nothing after (D12); a name of 17 bytes (D13)
    ∷ refuses (text "goal\t\n") 14 1
    ∷ refuses (text "fluent\tabcdefghijklmnopq\nstart\ngoal\n") 14 1
    -- a name defined before; twice in `start`
    ∷ refuses (text "fluent\ta\naction\ta\n") 15 2
    ∷ refuses (text "fluent\ta\nstart\ta\ta\ngoal\n") 15 2
    -- undefined, though twice in `start`; of the wrong kind
    ∷ refuses (text "fluent\ta\nstart\tb\tb\ngoal\n") 16 2
    ∷ refuses (text "fluent\ta\nstart\ngoal\t!a\n") 16 3
    -- the empty sheet (D12); a goal with no `start` above it
    ∷ refuses [] 18 0
    ∷ refuses (text "goal\n") 18 0
    ∷ record { sheet = example; room = 35; result = refusal 19 0 }
    -- a rule and a goal of 16 steps and a name of 16 bytes are read (D13)
    ∷ record { sheet = rule_of 16; room = 18; result = record { refusal = 0; line = 0; fluents = 1; actions = 1; rules = 1; start = 0; goal_len = 0; goal = padded [] } }
    ∷ reads (goal_of 16) 1 1 (replicate 16 256)
    ∷ reads sixteen 1 0 []
    ∷ []

pub drills_hold : map (λ (d : Drill). result_of d.room (read_sheet d.sheet)) drills ≡ map (λ (d : Drill). d.result) drills
unfolding drills read_sheet result_of
drills_hold = refl

-- the example's rule words, with one word lent past them
pub example_rules : rules_after (replicate 37 7) (read_sheet example) ≡ rule_words 0 (256 ∷ []) ++ rule_words 1 (768 ∷ 0 ∷ 257 ∷ 512 ∷ []) ++ (7 ∷ [])
unfolding read_sheet rules_after
example_rules = refl

-- the rule words of a rule of 16 steps
pub sixteen_steps : rules_after (replicate 18 7) (read_sheet (rule_of 16)) ≡ rule_words 0 (replicate 16 256)
unfolding read_sheet rules_after
sixteen_steps = refl

-- names: of the example's two fluents, of a number too high, of 16 bytes, of a refused sheet
pub names_hold : name_span example 0 ∷ name_span example 1 ∷ name_span example 2 ∷ name_span sixteen 0 ∷ name_span (text "fluent\ta\n") 0 ∷ []
    ≡ record { at = 7; len = 4 } ∷ record { at = 19; len = 3 } ∷ nowhere ∷ record { at = 7; len = 16 } ∷ nowhere ∷ []
unfolding name_span
names_hold = refl

-- names of a sheet with a comment above, CR LF and LF
pub dressed_names : name_span (text "# a\tb c\r\nfluent\ta\r\nfluent\tb\n#\nstart\tb\r\ngoal\n") 0
    ∷ name_span (text "# a\tb c\r\nfluent\ta\r\nfluent\tb\n#\nstart\tb\r\ngoal\n") 1 ∷ []
    ≡ record { at = 16; len = 1 } ∷ record { at = 26; len = 1 } ∷ []
unfolding name_span
dressed_names = refl

-- 10: any sheet of more than 65,536 bytes, as one of 65,537 line ends
pub whole_too_long : (s : List ℕ) → 65536 < length s → read_sheet s ≡ refused sheet_refusals.too_long 0
unfolding whole_sheet
whole_too_long s h = sheet_fault s sheet_refusals.too_long (rw (lt-leb (length s) 65536 h))

pub too_long : read_sheet (replicate 65537 LF) ≡ refused sheet_refusals.too_long 0
too_long = whole_too_long (replicate 65537 LF) (rw (length-replicate {A = ℕ} 65537 LF) (omega arith))
