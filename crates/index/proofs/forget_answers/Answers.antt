-- `forget_answers` meets its contract: the records and the notes behind them are words apart. Assumes nothing.
use native.Mathlib.Omega.{arith}
use Rattle.index.proofs.IndexLaws.{parts_keyed, keyed_parts, parts_rechained}
use Rattle.index.proofs.forget_answers.Goals as goal

pub forget_records-requires-clause-keyed : goal.forget_records-requires-clause-keyed
forget_records-requires-clause-keyed c =
    let s = c.split_at_mut-records in
    (c.requires.1, parts_keyed s.result.0.now s.result.1.now c.args.most c.args.m s.ensures.front_len (omega (arith, c.requires.0.fits)) (rw s.ensures.value at c.requires.2))

pub returns : goal.returns
returns c =
    let s = c.split_at_mut-records in
    let f = c.forget_records in (
      keyed_parts s.result.0.now f.new.notes c.args.most c.args.m0 s.ensures.front_len (omega (arith, c.requires.0.fits)) f.ensures.0,
      rw s.ensures.value (parts_rechained s.result.0.now s.ensures.front_len f.ensures.1),
    )
