-- A proper book together with itself is itself. Assumes nothing.
use Prim.Native.Nat.{ℕ, suc, ◌/◌, ◌%◌, ◌<◌}
use native.Mathlib.Omega.{arith}
use mathlib.Core.Path.{◌≡◌, refl, ap, sym, ◌∙◌}
use mathlib.Core.Bool.{Bool, true, false, cond}
use mathlib.Core.List.{List, [], ◌∷◌, map}
use lib.ListN.{length, get_or}
use lib.Dec.{ltb, eqb}
use borrow.Author.Tests.{ltb-true}
use Rattle.steps.specs.State.{State}
use Rattle.steps.specs.Acceptance.{good_step}
use Rattle.steps.proofs.EachBelow.{both}
use Rattle.chars.specs.Places.{place}
use Rattle.fields.specs.Book.{Book, Symbols, rule_words}
use Rattle.fields.specs.Field.{names_of}
use Rattle.sheet.proofs.Valid.{GoodRule}
use Rattle.writer.proofs.StepsBack.{Named}
use Rattle.writer.proofs.Proper.{Proper, fluents_named, actions_named}
use Rattle.merge.specs.Joined.{together, both_names, step_in, rule_in, book_over, both_books}
use Rattle.merge.proofs.Together.{together_same}
use Rattle.merge.proofs.ProperBoth.{rule_in_words, fluents_first}
use Rattle.merge.proofs.StartsTogether.{start_kept}

module _ (y : Symbols) (fluents : Named y.fluents) (actions : Named y.actions) where
  own_index : (kind index : ℕ) → index < cond (eqb kind 3) (length y.actions) (length y.fluents) → place (get_or (names_of y kind) index []) (names_of y kind) ≡ index
  own_index kind index = by (eqb kind 3)
    where
      by : (t : Bool) → index < cond t (length y.actions) (length y.fluents) → place (get_or (cond t y.actions y.fluents) index []) (cond t y.actions y.fluents) ≡ index
      by true l = actions.apart index l
      by false l = fluents.apart index l

  own_step : (w : ℕ) → good_step (length y.fluents) (length y.actions) w ≡ true → step_in y y w ≡ w
  unfolding good_step
  own_step w g =
      let (k, i) = both (ltb (w / 256) 5) (ltb (w % 256) (cond (eqb (w / 256) 3) (length y.actions) (length y.fluents))) g in
      let e = own_index (w / 256) (w % 256) (ltb-true (w % 256) _ i) in
      omega arith

  own_steps : (ws : List ℕ) → ((j : ℕ) → j < length ws → good_step (length y.fluents) (length y.actions) (get_or ws j 0) ≡ true) → map (step_in y y) ws ≡ ws
  own_steps [] h = refl
  own_steps (w ∷ ws) h = rw (own_step w (h 0 (omega arith)), own_steps ws (λ j l. h (suc j) (omega arith))) refl

  own_rule : (r : List ℕ) → GoodRule (length y.fluents) (length y.actions) r → rule_in y y r ≡ r
  own_rule r g =
      rule_in_words y y (length y.fluents) (length y.actions) r g
      ∙ ap (λ (h : ℕ). rule_words h (map (step_in y y) g.steps)) (actions.apart g.head g.action)
      ∙ ap (rule_words g.head) (own_steps g.steps g.good.each)
      ∙ sym g.is

  own_rules : (rs : List (List ℕ)) → ((j : ℕ) → j < length rs → GoodRule (length y.fluents) (length y.actions) (get_or rs j [])) → map (rule_in y y) rs ≡ rs
  own_rules [] h = refl
  own_rules (r ∷ rs) h = ap (λ (x : List ℕ). x ∷ map (rule_in y y) rs) (own_rule r (h 0 (omega arith))) ∙ ap (λ (l : List (List ℕ)). r ∷ l) (own_rules rs (λ j l. h (suc j) (omega arith)))

same_names : (y : Symbols) → both_names y y ≡ y
same_names y = by (together y.fluents y.fluents) (together y.actions y.actions) (together_same y.fluents y.fluents (λ x m. m)) (together_same y.actions y.actions (λ x m. m))
  where
    by : (f a : List (List ℕ)) → f ≡ y.fluents → a ≡ y.actions → ◌≡◌ {A = Symbols} (record { fluents = f; actions = a }) y
    by f a e g = rw (e, g) refl

book_is : (y : Symbols) (rs : List (List ℕ)) (s : State) (a : Book) → y ≡ a.names → rs ≡ a.rules → s ≡ a.start → ◌≡◌ {A = Book} (record { names = y; rules = rs; start = s; goal = a.goal }) a
book_is y rs s a e f g = rw (e, f, g) refl

pub with_itself : (a : Book) → Proper a → both_books a a ≡ a
unfolding book_over
with_itself a p =
    let n = same_names a.names in
    let own = own_rules a.names (fluents_named a p) (actions_named a p) a.rules p.valid.rules in
    let rs : together a.rules (map (rule_in (both_names a.names a.names) a.names) a.rules) ≡ a.rules =
    ap (λ (m : Symbols). together a.rules (map (rule_in m a.names) a.rules)) n ∙ ap (together a.rules) own ∙ together_same a.rules a.rules (λ x m. m) in
    let st = start_kept a.names.fluents a.names.fluents a.start a.start (fluents_first a.names p.named) (λ x m. m) in
    book_is _ _ _ a n rs st
