-- The steps from place q on, from the state come to, follow exactly if all do from the start. Assumes nothing.
use Prim.Native.Nat.{ℕ}
use mathlib.Core.Path.{◌≡◌}
use lib.ListN.{drop}
use Rattle.steps.specs.Words.{body_of}
use Rattle.records.specs.Records.{follows}
use Rattle.records.specs.Storage.{calls_in, answers_in, call_width_of, answer_width_of}
use Rattle.checks.proofs.justified.follows.Given as goal

abbrev pub invariant-loop-q : goal.invariant-loop-q
invariant-loop-q l =
    (k m : ℕ) → (let rows = calls_in (call_width_of l.plain) l.calls k in
    let ends = answers_in (answer_width_of l.plain) l.answers m in
    follows rows ends l.n (body_of (drop l.q l.body)) l.q l.state.0 ≡ follows rows ends l.n (body_of l.body) 0 l.initial.state.0)
