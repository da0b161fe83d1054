-- `put_start` meets its contract: the word, the names, LF. Assumes nothing.
use mathlib.Core.Path.{sym}
use mathlib.Core.List.{[], ◌∷◌, ◌++◌}
use native.Mathlib.Omega.{arith}
use Rattle.chars.specs.Bytes.{text, LF}
use Rattle.chars.specs.Pieces.{lines}
use Rattle.writer.specs.Inner.{held_bytes, start_bytes}
use Rattle.writer.proofs.Filling.{gives_then, gives_as}
use Rattle.writer.proofs.LinePieces.{start_bytes_are, start_size}
use Rattle.writer.proofs.put_start.Goals as goal

pub put-names-requires : goal.put-names-requires
put-names-requires c =
    let n = start_size c.args.start.0 (lines c.args.s.now) in
    let p = c.requires in
    omega arith

pub put_names-end-requires : goal.put_names-end-requires
put_names-end-requires c =
    let x = c.put-names in
    let n = start_size c.args.start.0 (lines c.args.s.now) in
    let p = c.requires in
    let i = x.ensures.0 in
    let j = x.auto.out in
    omega arith

pub put-requires : goal.put-requires
put-requires c =
    let y = c.put_names-end in
    let x = c.put-names in
    let n = start_size c.args.start.0 (lines c.args.s.now) in
    let p = c.requires in
    let i = x.ensures.0 in
    let j = x.auto.out in
    let k = y.ensures.0 in
    let m = y.auto.out in
    omega arith

pub returns : goal.returns
returns c =
    let z = c.put in
    let y = c.put_names-end in
    let x = c.put-names in
    let a = c.args in
    let all = lines a.s.now in
    let held = held_bytes 0 a.start.0 all in
    let n = start_size a.start.0 all in
    let i = x.ensures.0 in
    let k = y.ensures.0 in
    let j = z.ensures.0 in (
      omega arith,
      gives_as a.out.now z.new.out ((text "start" ++ held) ++ (LF ∷ [])) (start_bytes a.start.0 all) a.at z.result (sym (start_bytes_are a.start.0 all))
          (gives_then a.out.now y.new.out z.new.out (text "start" ++ held) (LF ∷ []) a.at y.result z.result
          (gives_then a.out.now x.new.out y.new.out (text "start") held a.at x.result y.result x.ensures.1 y.ensures.1)
          z.ensures.1),
    )
