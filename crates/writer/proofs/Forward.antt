-- The text of every proper book of at most 65,536 bytes reads to the book. Assumes nothing.
use Prim.Native.Nat.{ℕ, suc, ◌+◌, ◌≤◌, ◌<◌}
use native.Mathlib.Omega.{arith}
use mathlib.Core.Path.{◌≡◌, refl, ap, sym, ◌∙◌, subst}
use mathlib.Core.Bool.{true, false}
use mathlib.Core.List.{List, [], ◌∷◌, ◌++◌, map, append-nil, append_assoc}
use lib.ListN.{length, get_or, length-append}
use borrow.Author.Tests.{le-leb}
use Rattle.chars.specs.Bytes.{text, clean}
use Rattle.chars.specs.Places.{among}
use Rattle.fields.specs.Verdict.{accept}
use Rattle.fields.specs.Book.{Symbols, Book}
use Rattle.lines.specs.Line.{Reading, empty, line}
use Rattle.lines.specs.Reader.{read_lines, read_sheet, written, whole_sheet, ended}
use Rattle.lines.proofs.LineVerdicts.{line_read, lines_read}
use Rattle.lines.proofs.Readings.{read_start, read_goal}
use Rattle.sheet.proofs.Results.{sheet_lines}
use Rattle.sheet.proofs.AcceptedLines.{at_whole}
use Rattle.sheet.proofs.Valid.{GoodRule}
use Rattle.writer.specs.Text.{step_text, holding, text_of}
use Rattle.writer.proofs.Solid.{none_solid, more_solid, name_solid, line_bytes, line_good, text_of_lines, AllGood, none_good, more_good, good_append, lines_text, text_clean, text_ended}
use Rattle.writer.proofs.StepsBack.{Named}
use Rattle.writer.proofs.NamesApart.{Adds, none, more, first_part, second_part}
use Rattle.writer.proofs.FieldsSolid.{named_solid, held_solid, steps_solid}
use Rattle.writer.proofs.TextLines.{fluent_line, action_line, rule_line, start_line, goal_line, lines_of, text_lines}
use Rattle.writer.proofs.LinesBack.{fluent_back, action_back, rule_fields_are, rule_back, start_back, goal_back, solid_fluent, solid_action, solid_rule, solid_start, solid_goal}
use Rattle.writer.proofs.Proper.{Proper, fluents_named, actions_named}

-- the lines lead from b to the last book
abbrev Ends : Reading → List (List ℕ) → Book → Type 0
Ends b ls last = (n : ℕ) → read_lines n b ls ≡ written last

one_line : (b next : Reading) (last : Book) (l : List ℕ) (ls : List (List ℕ)) → line b l ≡ accept next → Ends next ls last → Ends b (l ∷ ls) last
one_line b next last l ls e k n = line_read n b l ls next e ∙ k (n + 1)

-- the reading while the fluents, the actions, the rules are read
abbrev fl : List (List ℕ) → Reading
fl fs = record { book = record { names = record { fluents = fs; actions = [] }; rules = []; start = 0; goal = [] }; stage = 0; started = false }

abbrev ac : ℕ → List (List ℕ) → List (List ℕ) → Reading
ac t fs ns = record { book = record { names = record { fluents = fs; actions = ns }; rules = []; start = 0; goal = [] }; stage = t; started = false }

abbrev ru : ℕ → Symbols → List (List ℕ) → Reading
ru t y rs = record { book = record { names = y; rules = rs; start = 0; goal = [] }; stage = t; started = false }

module _ (last : Book) (tail : List (List ℕ)) where
  fluents_read : (done rest : List (List ℕ)) → Adds done rest → length done + length rest ≤ 64 → Ends (fl (done ++ rest)) tail last → Ends (fl done) (map fluent_line rest ++ tail) last
  fluents_read done [] none h k = subst (λ (l : List (List ℕ)). Ends (fl l) tail last) (append-nil done) k
  fluents_read done (x ∷ xs) (more n a r) h k =
      let m = length-append done (x ∷ []) in
      let f = subst (λ (l : List (List ℕ)). among x l ≡ false) (sym (append-nil done)) a in
      one_line (fl done) (fl (done ++ (x ∷ []))) last (fluent_line x) (map fluent_line xs ++ tail) (fluent_back (fl done) x refl (omega arith) n f)
      (fluents_read (done ++ (x ∷ [])) xs r (omega arith) (subst (λ (l : List (List ℕ)). Ends (fl l) tail last) (sym (append_assoc done (x ∷ []) xs)) k))

  actions_read : (t : ℕ) (fs done rest : List (List ℕ)) → t ≤ 1 → Adds (fs ++ done) rest → length done + length rest ≤ 64 → ((t : ℕ) → t ≤ 1 → Ends (ac t fs (done ++ rest)) tail last) → Ends (ac t fs done) (map action_line rest ++ tail) last
  actions_read t fs done [] i none h k = subst (λ (l : List (List ℕ)). Ends (ac t fs l) tail last) (append-nil done) (k t i)
  actions_read t fs done (x ∷ xs) i (more n a r) h k =
      let m = length-append done (x ∷ []) in
      one_line (ac t fs done) (ac 1 fs (done ++ (x ∷ []))) last (action_line x) (map action_line xs ++ tail) (action_back (ac t fs done) x i (omega arith) n a)
      (actions_read 1 fs (done ++ (x ∷ [])) xs (omega arith) (subst (λ (l : List (List ℕ)). Adds l xs) (append_assoc fs done (x ∷ [])) r) (omega arith)
      (λ t i. subst (λ (l : List (List ℕ)). Ends (ac t fs l) tail last) (sym (append_assoc done (x ∷ []) xs)) (k t i)))

  module _ (y : Symbols) (fluents : Named y.fluents) (actions : Named y.actions) where
    rule_read : (t : ℕ) (done : List (List ℕ)) (r : List ℕ) → t ≤ 2 → length done < 256 → GoodRule (length y.fluents) (length y.actions) r → line (ru t y done) (rule_line y r) ≡ accept (ru 2 y (done ++ (r ∷ [])))
    rule_read t done r i l g =
        ap (λ (r : List ℕ). line (ru t y done) (rule_line y r)) g.is
        ∙ rule_back y fluents actions (ru t y done) refl g.head g.steps i l g.action g.good
        ∙ ap (λ (r : List ℕ). accept (ru 2 y (done ++ (r ∷ [])))) (sym g.is)

    rules_read : (t : ℕ) (done rest : List (List ℕ)) → t ≤ 2 → ((i : ℕ) → i < length rest → GoodRule (length y.fluents) (length y.actions) (get_or rest i [])) → length done + length rest ≤ 256 → ((t : ℕ) → t ≤ 2 → Ends (ru t y (done ++ rest)) tail last) → Ends (ru t y done) (map (rule_line y) rest ++ tail) last
    rules_read t done [] i g h k = subst (λ (l : List (List ℕ)). Ends (ru t y l) tail last) (append-nil done) (k t i)
    rules_read t done (x ∷ xs) i g h k =
        let m = length-append done (x ∷ []) in
        one_line (ru t y done) (ru 2 y (done ++ (x ∷ []))) last (rule_line y x) (map (rule_line y) xs ++ tail) (rule_read t done x i (omega arith) (g 0 (omega arith)))
        (rules_read 2 (done ++ (x ∷ [])) xs (omega arith) (λ j l. g (suc j) (omega arith)) (omega arith)
        (λ t i. subst (λ (l : List (List ℕ)). Ends (ru t y l) tail last) (sym (append_assoc done (x ∷ []) xs)) (k t i)))

module _ (b : Book) (p : Proper b) where
  abbrev y : Symbols
  y = b.names

  abbrev fluents : Named y.fluents
  fluents = fluents_named b p

  abbrev actions : Named y.actions
  actions = actions_named b p

  lines_back : Ends empty (lines_of b) b
  lines_back =
      let v = p.valid in
      fluents_read b _ [] y.fluents (first_part [] y.fluents y.actions p.named) (omega (arith, v.few_fluents))
      (actions_read b _ 0 y.fluents [] y.actions (omega arith) (subst (λ (l : List (List ℕ)). Adds l y.actions) (sym (append-nil y.fluents)) (second_part [] y.fluents y.actions p.named)) (omega (arith, v.few_actions))
      (λ t i. rules_read b _ y fluents actions t [] b.rules (omega arith) v.rules (omega (arith, v.few_rules))
      (λ t i. one_line (ru t y b.rules) (read_start (ru t y b.rules) b.start) b (start_line y b.start) (goal_line y b.goal ∷ []) (start_back y fluents actions (ru t y b.rules) refl b.start (omega arith) v.start)
      (one_line (read_start (ru t y b.rules) b.start) (read_goal (read_start (ru t y b.rules) b.start) b.goal) b (goal_line y b.goal) [] (goal_back y fluents actions (read_start (ru t y b.rules) b.start) refl b.goal (omega arith) v.goal)
      (λ n. lines_read n _ ∙ at_whole b)))))

  -- its lines are good lines
  each_good : (h : List ℕ → List ℕ) (xs : List (List ℕ)) → ((i : ℕ) → i < length xs → AllGood (h (get_or xs i []) ∷ [])) → AllGood (map h xs)
  each_good h [] g = none_good
  each_good h (x ∷ xs) g = put (g 0 (omega arith)) (each_good h xs (λ i l. g (suc i) (omega arith)))
    where
      put : AllGood (h x ∷ []) → AllGood (map h xs) → AllGood (h x ∷ map h xs)
      put (more_good a none_good) r = more_good a r

  rule_good : (r : List ℕ) → GoodRule (length y.fluents) (length y.actions) r → AllGood (rule_line y r ∷ [])
  rule_good r g =
      subst (λ (r : List ℕ). AllGood (rule_line y r ∷ [])) (sym g.is)
      (subst (λ (fs : List (List ℕ)). AllGood (line_bytes (text "rule") fs ∷ [])) (sym (rule_fields_are y fluents actions g.head g.steps))
      (more_good (line_good (text "rule") (get_or y.actions g.head [] ∷ map (step_text y) g.steps) solid_rule (more_solid (name_solid _ (actions.good g.head g.action)) (steps_solid y fluents actions g.steps g.good.each))) none_good))

  lines_good : AllGood (lines_of b)
  lines_good =
      let v = p.valid in
      good_append (map fluent_line y.fluents) _ (each_good fluent_line y.fluents (λ i l. more_good (line_good (text "fluent") (get_or y.fluents i [] ∷ []) solid_fluent (more_solid (name_solid _ (fluents.good i l)) none_solid)) none_good))
      (good_append (map action_line y.actions) _ (each_good action_line y.actions (λ i l. more_good (line_good (text "action") (get_or y.actions i [] ∷ []) solid_action (more_solid (name_solid _ (actions.good i l)) none_solid)) none_good))
      (good_append (map (rule_line y) b.rules) _ (each_good (rule_line y) b.rules (λ i l. rule_good (get_or b.rules i []) (v.rules i l)))
      (more_good (line_good (text "start") (holding 0 b.start y.fluents) solid_start (held_solid 0 b.start y.fluents (named_solid y.fluents fluents)))
      (more_good (line_good (text "goal") (map (step_text y) b.goal) solid_goal (steps_solid y fluents actions b.goal v.goal.each)) none_good))))

  whole_back : (s : List ℕ) → length s ≤ 65536 → clean s ≡ true → ended s ≡ true → whole_sheet s ≡ accept tt
  unfolding whole_sheet
  whole_back s l c e = rw (le-leb (length s) 65536 l, c, e) refl

  -- The text of a proper book reads to the book.
  pub reads_proper : length (text_of b) ≤ 65536 → read_sheet (text_of b) ≡ written b
  reads_proper l =
      let t = text_of_lines (lines_of b) in
      let e = text_lines b in
      let h = whole_back t (omega (arith, ap length e)) (text_clean (lines_of b) lines_good) (text_ended (lines_of b)) in
      ap read_sheet e ∙ sheet_lines t h ∙ ap (read_lines 1 empty) (lines_text (lines_of b) lines_good) ∙ lines_back 1
