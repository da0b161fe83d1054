-- `is_name` meets its contract, by the first byte and those behind it. Assumes nothing.
use Rattle.std.proofs.Common.{sym, ◌∙◌, inl, inr, ◌-◌, length, take, drop, arith}
use borrow.Author.Tests.{le-ltb}
use Rattle.chars.proofs.Names.{name_empty, name_start, name_long, name_rest}
use Rattle.chars.proofs.is_name.Goals as goal
use Rattle.chars.proofs.is_name.Goals.{then-is_lower, else-is_lower}

pub returns-in-empty : goal.returns-in-empty
returns-in-empty c = sym (name_empty c.args.s.now c.in-empty.len_below)

pub returns-then-rest-lt-NAME_LEN : goal.returns-then-rest-lt-NAME_LEN
returns-then-rest-lt-NAME_LEN c =
    let l = c.args.s.now in
    let k = c.if-rest-lt-NAME_LEN.true in
    cc (name_rest l (omega arith) (sym c.is_lower.ensures ∙ k.0) k.1)

pub returns-else-rest-lt-NAME_LEN : goal.returns-else-rest-lt-NAME_LEN
returns-else-rest-lt-NAME_LEN c =
    let l = c.args.s.now in
    elim c.if-is_lower.branch [
      | then-is_lower w ↦
          elim c.if-rest-lt-NAME_LEN.either [
            | inl h ↦ w.t-11-is ∙ le-ltb (length (take (length l - 1) (drop 1 l))) 16 h.1 ∙ sym (name_long l h.1)
            | inr h ↦ cc
          ]
      | else-is_lower w ↦ cc (name_start l (sym c.is_lower.ensures ∙ w.if-is_lower.false))
    ]
