-- The verdicts on a line's head, case by case, and what a head that passed says. Assumes nothing.
use mathlib.Core.Path.{◌≡◌, sym}
use mathlib.Core.Bool.{true, false, not, and-false, true≢false}
use Prim.Native.Nat.{ℕ, ◌≤◌, ◌<◌}
use native.Mathlib.Omega.{arith}
use lib.Dec.{leb, ltb, eqb}
use lib.ListN.{length}
use borrow.Author.Tests.{lt-ltb, lt-leb, le-leb, leb-true, leb-false, ltb-false, eqb-true, eqb-false, not-true, not-false}
use Rattle.refusals.specs.Sheet.{line_refusals}
use Rattle.fields.specs.Verdict.{refuse, accept, ◌>>=◌, require}
use Rattle.fields.proofs.Verdicts.{required, held, neither}
use Rattle.lines.specs.declared.Word.{Word}
use Rattle.lines.specs.declared.Word.TheVariants.{Fluent, Action, Rule, Start, Goal, Other}
use Rattle.lines.specs.Line.{Reading, row, overfull, miscounted}
use Rattle.lines.specs.Kept.{in_order, line_head}

row_le : (w : Word) → row w ≤ 5
row_le Fluent = omega arith
row_le Action = omega arith
row_le Rule = omega arith
row_le Start = omega arith
row_le Goal = omega arith
row_le Other = omega arith

-- the head of a line
module _ (b : Reading) (w : Word) (n : ℕ) where
  pub head_no_word : row w ≡ 5 → line_head b w n ≡ refuse line_refusals.bad_word
  unfolding line_head
  head_no_word e = rw e

  pub head_late : row w < b.stage → line_head b w n ≡ refuse line_refusals.bad_word
  unfolding line_head
  head_late h = rw (lt-leb b.stage (row w) h, and-false)

  module _ (h : row w ≡ 5 → ⊥) (k : b.stage ≤ row w) where
    timely : in_order b.stage w ≡ true
    timely =
        let l = row_le w in
        rw (lt-ltb (row w) 5 (omega arith), le-leb b.stage (row w) k)

    pub head_overfull : overfull b.book w n ≡ true → line_head b w n ≡ refuse line_refusals.too_many
    unfolding line_head
    head_overfull e = rw (timely, e)

    pub head_miscounted : overfull b.book w n ≡ false → miscounted w n ≡ true → line_head b w n ≡ refuse line_refusals.bad_field
    unfolding line_head
    head_miscounted e f = rw (timely, e, f)

    pub head_passed : overfull b.book w n ≡ false → miscounted w n ≡ false → line_head b w n ≡ accept tt
    unfolding line_head
    head_passed e f = rw (timely, e, f)

-- what a passed head says
pub record Passed (b : Reading) (w : Word) (n : ℕ) : Type 0 where
  pub ordered : in_order b.stage w ≡ true
  pub room : overfull b.book w n ≡ false
  pub counted : miscounted w n ≡ false

pub passed : (b : Reading) (w : Word) (n : ℕ) → line_head b w n ≡ accept tt → Passed b w n
unfolding line_head
passed b w n e =
    let (i, f) = required (in_order b.stage w) line_refusals.bad_word (λ _. require (not (overfull b.book w n)) line_refusals.too_many >>= (λ _. require (not (miscounted w n)) line_refusals.bad_field)) tt e in
    let (o, g) = required (not (overfull b.book w n)) line_refusals.too_many (λ _. require (not (miscounted w n)) line_refusals.bad_field) tt f in
    record { ordered = i; room = not-true (overfull b.book w n) o; counted = not-true (miscounted w n) (held (not (miscounted w n)) line_refusals.bad_field g) }

module _ (b : Reading) (n : ℕ) where
  pub fluent_room : line_head b Fluent n ≡ accept tt → (b.stage ≡ 0) × (length b.book.names.fluents < 64) × (n ≡ 1)
  unfolding overfull
  fluent_room e =
      let p = passed b Fluent n e in
      (omega (arith, leb-true b.stage 0 p.ordered), leb-false 64 (length b.book.names.fluents) p.room, eqb-true n 1 (not-false (eqb n 1) p.counted))

  pub action_room : line_head b Action n ≡ accept tt → (length b.book.names.actions < 64) × (n ≡ 1)
  unfolding overfull
  action_room e =
      let p = passed b Action n e in
      (leb-false 64 (length b.book.names.actions) p.room, eqb-true n 1 (not-false (eqb n 1) p.counted))

  pub rule_room : line_head b Rule n ≡ accept tt → (length b.book.rules < 256) × (0 < n) × (n ≤ 17)
  unfolding overfull
  rule_room e =
      let p = passed b Rule n e in
      let (i, j) = neither (leb 256 (length b.book.rules)) (ltb 17 n) p.room in
      let z = eqb-false n 0 p.counted in
      (leb-false 256 (length b.book.rules) i, omega arith, ltb-false 17 n j)

  pub goal_room : line_head b Goal n ≡ accept tt → n ≤ 16
  unfolding overfull
  goal_room e = ltb-false 16 n (passed b Goal n e).room

  pub other_never : line_head b Other n ≡ accept tt → ⊥
  other_never e = true≢false (sym (passed b Other n e).ordered)
