-- `Body::push` keeps a body's form: one word more, one zero less. Assumes nothing.
use Rattle.std.proofs.Common.{◌≡◌, ◌+◌, ◌-◌, suc, sym, ◌∙◌, ap, length, drop, replicate, arith}
use Rattle.std.proofs.Math.ListN.{length-set}
use Rattle.std.proofs.Math.Seq.{drop-set-lt, drop-drop}
use Rattle.fields.proofs.book.Body.push.Goals as goal

pub invariant_of-self-clause-zeros : goal.invariant_of-self-clause-zeros
invariant_of-self-clause-zeros c =
    let b = c.args.self.now in
    let z : drop b.len b.words ≡ replicate (16 - b.len) 0 = b.zeros in
    let e : 16 - b.len ≡ suc (16 - (b.len + 1)) = omega arith in
    drop-set-lt (b.len + 1) b.words b.len c.args.word (omega arith) ∙ sym (drop-drop 1 b.len b.words) ∙ ap (drop 1) (z ∙ ap (λ k. replicate k 0) e)

pub invariant_of-self-clause-size : goal.invariant_of-self-clause-size
invariant_of-self-clause-size c =
    let b = c.args.self.now in
    let z : length b.words ≡ 16 = b.size in
    length-set b.words b.len c.args.word ∙ z
