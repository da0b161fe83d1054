-- `Row::used` meets its contract, by the place of the name in the row. Assumes nothing.
use Rattle.std.proofs.Common.{◌≡◌, ℕ, sym, ap, ◌∙◌, true, List, Bor, Option, Some, None, map, take}
use Rattle.std.specs.List.{position}
use Rattle.std.specs.Option.{ok_or}
use Rattle.refusals.specs.declared.Refusal.TheVariants.{Undefined}
use Rattle.chars.specs.Bytes.{is_name}
use Rattle.chars.specs.Places.{same}
use Rattle.fields.specs.Verdict.{accept}
use Rattle.fields.specs.Field.{used_name}
use Rattle.fields.specs.Held.{answer, row_of}
use Rattle.fields.proofs.FieldVerdicts.{used_no_name, used_unknown, used_known}
use Rattle.fields.proofs.NamePlaces.{place_Some, place_None}
use Rattle.fields.proofs.book.Row.used.Goals as goal

by_place : (f : List ℕ) (row : List (Bor (List ℕ))) → is_name f ≡ true → (o : Option ℕ) → position (λ x. same f x.now) row ≡ o
    → answer (λ k. k) (ok_or o Undefined) ≡ used_name (map (λ x. x.now) row) f
by_place f row n (Some k) e =
    let p = place_Some f row k e in
    ap accept (sym p.0) ∙ sym (used_known (map (λ x. x.now) row) f n (rw p.0 p.1))
by_place f row n None e = sym (used_unknown (map (λ x. x.now) row) f n (place_None f row e))

pub returns-then-not-is_name-clause-number : goal.returns-then-not-is_name-clause-number
returns-then-not-is_name-clause-number c =
    sym (used_no_name (row_of c.args.self.now) c.args.name.now (sym c.is_name.ensures ∙ c.if-not-is_name.true))

pub returns-clause-number : goal.returns-clause-number
returns-clause-number c =
    let r = c.args.self.now in
    rw c.ok_or.ensures.value
    (by_place c.args.name.now (take r.len r.names) (sym c.is_name.ensures ∙ c.if-not-is_name.false) c.find.result (sym c.find.ensures))
