-- `Names::may_define` meets its contract, by the places of the name in both rows. Assumes nothing.
use Rattle.std.proofs.Common.{◌≡◌, ℕ, sym, ◌∙◌, true, false, ◌<◌, ◌≤◌, length, List, Bor, Option, Some, None, map, take}
use Rattle.std.specs.List.{position}
use Rattle.std.specs.Option.{is_some}
use Rattle.chars.specs.Places.{same, place}
use Rattle.fields.specs.Held.{symbols_of, row_of}
use Rattle.fields.proofs.FieldVerdicts.{new_no_name, new_known, new_fresh}
use Rattle.fields.proofs.NamePlaces.{place_Some, place_None, in_first, in_second, in_neither}
use Rattle.fields.proofs.book.Names.may_define.Goals as goal
use Rattle.fields.proofs.book.Names.may_define.Goals.{then-is_some-via-then-is_some, then-is_some-via-else-is_some+then-is_some-2}

-- a name that was found is in the row, and one that was not isn't
module _ (f : List ℕ) (row : List (Bor (List ℕ))) where
  there : (o : Option ℕ) → position (λ x. same f x.now) row ≡ o → is_some o ≡ true → place f (map (λ x. x.now) row) < length (map (λ x. x.now) row)
  there (Some k) e h = let p = place_Some f row k e in rw p.0 p.1
  there None e h = absurd cc

  gone : (o : Option ℕ) → position (λ x. same f x.now) row ≡ o → is_some o ≡ false → length (map (λ x. x.now) row) ≤ place f (map (λ x. x.now) row)
  gone (Some k) e h = absurd cc
  gone None e h = place_None f row e

pub returns-then-not-is_name : goal.returns-then-not-is_name
returns-then-not-is_name c =
    sym (new_no_name (symbols_of c.args.self.now) c.args.name.now (sym c.is_name.ensures ∙ c.if-not-is_name.true))

pub returns-then-is_some : goal.returns-then-is_some
returns-then-is_some c =
    let n = c.args.self.now in
    let f = c.args.name.now in
    let t = sym c.is_name.ensures ∙ c.if-not-is_name.false in
    sym (new_known (symbols_of n) f t (elim c.then-is_some.branch [
      | then-is_some-via-then-is_some w ↦
          in_first f (row_of n.fluents) (row_of n.actions)
          (there f (take n.fluents.len n.fluents.names) c.find.result (sym c.find.ensures) (sym c.is_some.ensures ∙ w.if-is_some.true))
      | then-is_some-via-else-is_some+then-is_some-2 w ↦
          in_second f (row_of n.fluents) (row_of n.actions)
          (there f (take n.actions.len n.actions.names) w.find-else-is_some.result (sym w.find-else-is_some.ensures)
          (sym w.is_some-else-is_some.ensures ∙ w.if-is_some-2.true))
    ]))

pub returns : goal.returns
returns c =
    let n = c.args.self.now in
    let f = c.args.name.now in
    let t = sym c.is_name.ensures ∙ c.if-not-is_name.false in
    let x = c.find-else-is_some in
    sym (new_fresh (symbols_of n) f t (in_neither f (row_of n.fluents) (row_of n.actions)
    (gone f (take n.fluents.len n.fluents.names) c.find.result (sym c.find.ensures) (sym c.is_some.ensures ∙ c.if-is_some.false))
    (gone f (take n.actions.len n.actions.names) x.result (sym x.ensures) (sym c.is_some-else-is_some.ensures ∙ c.if-is_some-2.false))))
