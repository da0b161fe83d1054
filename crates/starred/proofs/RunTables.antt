-- The words of a path's tables are those of its row's finished run, where the test of finite tables passes. Assumes nothing.
use Prim.Native.Nat.{ℕ, ◌*◌}
use native.Mathlib.Omega.{arith}
use mathlib.Core.Bool.{Bool, ◌&&◌}
use mathlib.Core.List.{List}
use lib.Dec.{T, eqb, eqb→eq}
use lib.ListN.{length, get_or-eq_default}
use Rattle.steps.specs.Acceptance.{each_below}
use Rattle.steps.proofs.EachBelow.{each_at}
use Rattle.records.specs.Records.{Calls, Answers, justified, call_width, answer_width}
use Rattle.records.specs.Finished.{call_rows, answer_rows, Finished}
use Rattle.path.specs.Answered.{call_records, answer_records, bodies}
use Rattle.starred.specs.Drills.{DrillPath, Drill, run, handed_of}
use Rattle.starred.proofs.ListTests.{both_l, both_r, holds_true, distinct, distinct_of}
use Rattle.starred.proofs.Certified.{CallRow, AnswerRow, call_row, answer_row, call_row_refl, answer_row_refl, certified, certified_exact}

module _ (d : Drill) (p : DrillPath) where
  abbrev calls : Calls
  calls = call_records (handed_of d p.calls p.answers)

  abbrev answers : Answers
  answers = answer_records (handed_of d p.calls p.answers)

  abbrev C : List CallRow
  C = call_rows calls

  abbrev A : List AnswerRow
  A = answer_rows calls answers

  -- the records are exactly the run's, each once and justified, and no word stands past them
  unfoldable pub of_run : Bool
  of_run =
      certified (run d) C A && distinct call_row C && distinct answer_row A && each_below d.answers (λ x. justified calls answers x (bodies (handed_of d p.calls p.answers)))
      && eqb (length p.calls) (call_width * d.calls) && eqb (length p.answers) (answer_width * d.answers)

  pub finished : T of_run → Finished d.rules d.goal d.start p.calls p.answers d.calls d.answers
  unfolding of_run
  finished t =
      let exact = certified_exact (run d) C A (search (both_l, both_r) depth 8) in
      let ok : T (each_below d.answers (λ x. justified calls answers x (bodies (handed_of d p.calls p.answers)))) = search (both_l, both_r) depth 8 in
      let nC = eqb→eq (length p.calls) (call_width * d.calls) (search (both_l, both_r) depth 8) in
      let nA = eqb→eq (length p.answers) (answer_width * d.answers) (search (both_l, both_r) depth 8) in
      record {
        calls_held = record { once = distinct_of call_row call_row_refl C (search (both_l, both_r) depth 8); members = λ c. exact.calls c.0 c.1 };
        answers_held = record { once = distinct_of answer_row answer_row_refl A (search (both_l, both_r) depth 8); members = λ c. exact.answers c.0 c.1 c.2 };
        justified = λ x l. each_at (λ x. justified calls answers x (bodies (handed_of d p.calls p.answers))) d.answers (holds_true _ ok) x l;
        calls_past = λ i l. get_or-eq_default p.calls 0 (omega (arith, nC));
        answers_past = λ i l. get_or-eq_default p.answers 0 (omega (arith, nA));
      }
