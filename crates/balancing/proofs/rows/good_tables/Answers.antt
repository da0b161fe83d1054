-- `good_tables` meets its contract: three tests, one after the other. Assumes nothing.
use Prim.Native.Nat.{ℕ, ◌*◌}
use mathlib.Core.Path.{◌≡◌, sym, ◌∙◌}
use mathlib.Core.Bool.{Bool, true, false}
use mathlib.Core.List.{List}
use borrow.Author.Tests.{not-true, not-false}
use Rattle.steps.proofs.EachBelow.{true_not_false}
use Rattle.records.specs.Records.{Bodies}
use Rattle.checks.specs.Checks.{bad_plain, clear_past}
use Rattle.checks.proofs.ClearLaws.{clear_out, clear_in}
use Rattle.stowing.specs.Stowing.{call_words, answer_words, plain_calls, plain_answers}
use Rattle.matching.specs.Flags.{Whether}
use Rattle.balancing.specs.Balancing.{GoodTables}
use Rattle.balancing.proofs.rows.good_tables.Goals as goal

-- The last test tells.
last : (first second : Bool) (fluents actions : ℕ) (bodies : Bodies) (calls : List ℕ) (n : ℕ) (answers : List ℕ) (m : ℕ)
    → bad_plain first second fluents actions bodies (plain_calls calls n) (plain_answers answers m) ≡ false
    → clear_past calls (call_words * n) ≡ true → (b : Bool) → b ≡ clear_past answers (answer_words * m)
    → Whether (GoodTables first second fluents actions bodies calls n answers m) b
last first second fluents actions bodies calls n answers m r c true e =
    record { right = r; calls_past = clear_out calls (call_words * n) c; answers_past = clear_out answers (answer_words * m) (sym e) }
last first second fluents actions bodies calls n answers m r c false e =
    λ g. true_not_false (sym (clear_in answers (answer_words * m) g.answers_past) ∙ sym e)

pub returns-then-bad_rows : goal.returns-then-bad_rows
returns-then-bad_rows c = λ g. (let b = c.bad_rows in true_not_false (sym c.if-bad_rows.true ∙ b.ensures ∙ g.right))

pub returns-then-not-clear_past : goal.returns-then-not-clear_past
returns-then-not-clear_past c =
    λ g. (let p = c.clear_past in
    true_not_false (sym (clear_in _ _ g.calls_past) ∙ sym p.ensures ∙ not-true p.result c.if-not-clear_past.true-raw))

pub returns : goal.returns
returns c =
    let p = c.clear_past in
    let left = c.if-bad_rows.false in
    let b = c.bad_rows in
    last _ _ _ _ _ _ _ _ _ (sym b.ensures ∙ left) (sym p.ensures ∙ not-false p.result c.if-not-clear_past.false-raw) c.clear_past-2.result c.clear_past-2.ensures
