-- Sheets in every dress and what `write` gives and leaves, computed from the definitions. Assumes nothing.
use mathlib.Core.Path.{◌≡◌, refl}
use mathlib.Core.List.{List, [], ◌∷◌, ◌++◌, map}
use Prim.Native.Nat.{ℕ}
use lib.ListN.{length, replicate}
use Rattle.chars.specs.Bytes.{text}
use Rattle.lines.specs.Reader.{read_sheet}
use Rattle.writer.specs.declared.Written.{Written}
use Rattle.writer.specs.Text.{text_of}
use Rattle.writer.specs.Writer.{said, over, written_in, out_after}

-- A sheet, the bytes lent, and what they hold afterwards; each byte lent is 7 before.
pub record Drill : Type 0 where
  pub sheet : List ℕ
  pub room : ℕ
  pub says : Written
  pub leaves : List ℕ

-- a sheet and the text that it is written as
abbrev writes : List ℕ → List ℕ → Drill
writes sheet t = record { sheet = sheet; room = 120; says = said 0 0 (length t); leaves = over t (replicate 120 7) }

-- a sheet that is refused
abbrev refuses : List ℕ → ℕ → ℕ → Drill
refuses sheet number line = record { sheet = sheet; room = 8; says = said number line 0; leaves = replicate 8 7 }

-- the sheet that document 01 prints
abbrev example : List ℕ
example = text "fluent\topen\nfluent\tlit\naction\tpurge\naction\tlight\nrule\tpurge\t+open\nrule\tlight\t!purge\t?open\t+lit\t-open\nstart\ngoal\t!light\n"

-- a sheet as it comes back from the editor, and its text
abbrev dressed : List ℕ
dressed = text "# a\tb c\r\nfluent\ta\r\nfluent\tb\n#\naction\tg\r\nrule\tg\t+a\t?b\r\nstart\tb\ta\r\ngoal\t!g\r\n# end\n"

abbrev plain : List ℕ
plain = text "fluent\ta\nfluent\tb\naction\tg\nrule\tg\t+a\t?b\nstart\ta\tb\ngoal\t!g\n"

pub drills : List Drill
drills =
    writes example example
    ∷ writes dressed plain
    ∷ writes plain plain
    -- room for the text, and one byte less
    ∷ record { sheet = dressed; room = 58; says = said 0 0 58; leaves = plain }
    ∷ record { sheet = dressed; room = 57; says = said 50 0 0; leaves = replicate 57 7 }
    -- every kind of step; equal rules stay; names of `start` in fluent order
    ∷ writes (text "fluent\ta\naction\tg\nrule\tg\t?a\t+a\t-a\t!g\t~a\nstart\ngoal\t~a\n") (text "fluent\ta\naction\tg\nrule\tg\t?a\t+a\t-a\t!g\t~a\nstart\ngoal\t~a\n")
    ∷ writes (text "action\tg\nrule\tg\nrule\tg\nstart\ngoal\t!g\n") (text "action\tg\nrule\tg\nrule\tg\nstart\ngoal\t!g\n")
    ∷ writes (text "fluent\ta\nfluent\tb\nfluent\tc\nstart\tc\ta\ngoal\n") (text "fluent\ta\nfluent\tb\nfluent\tc\nstart\ta\tc\ngoal\n")
    -- a space outside a comment line; CR that is not directly before LF
    ∷ refuses (text "start \ngoal\n") 11 0
    ∷ refuses (text " # x\n") 11 0
    ∷ refuses (text "# x\nb c\n") 11 0
    ∷ refuses (text "start\r\r\ngoal\n") 11 0
    ∷ refuses (text "start\ngoal\r") 11 0
    ∷ refuses (text "sta\rrt\ngoal\n") 11 0
    ∷ refuses (text "#a\rb\n") 11 0
    -- bytes that no comment may have
    ∷ refuses (text "#" ++ (127 ∷ text "\n")) 11 0
    ∷ refuses (text "#" ++ (31 ∷ text "\n")) 11 0
    -- a last comment without LF
    ∷ refuses (text "start\ngoal\n# x y") 12 0
    -- a line of CR LF alone; a tab before `#`
    ∷ refuses (text "\r\nstart\ngoal\n") 13 1
    ∷ refuses (text "\t# x\n") 11 0
    ∷ refuses (text "\t#x\n") 13 1
    -- an empty field before CR LF; comments count in line numbers; a name with `#`
    ∷ refuses (text "start\r\ngoal\t\r\n") 14 2
    ∷ refuses (text "# 1\n# 2\nfluent\tA\n") 14 3
    ∷ refuses (text "fluent\t#a\n") 14 1
    -- nothing but comments
    ∷ refuses [] 18 0
    ∷ refuses (text "# x\n#\n") 18 0
    ∷ []

-- what writing a row's sheet says and leaves
abbrev done : Drill → Written × List ℕ
done d = (written_in d.room (read_sheet d.sheet), out_after (replicate d.room 7) (read_sheet d.sheet))

abbrev wanted : Drill → Written × List ℕ
wanted d = (d.says, d.leaves)

pub drills_hold : map done drills ≡ map wanted drills
unfolding drills read_sheet written_in out_after text_of
drills_hold = refl
