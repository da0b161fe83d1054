-- What a run leaves in the first words of a table, told of the whole table. Assumes nothing.
use Prim.Native.Nat.{ℕ, ◌+◌, ◌-◌, ◌*◌, ◌/◌, ◌%◌, ◌<◌, ◌≤◌}
use native.Mathlib.Omega.{arith}
use mathlib.Core.Path.{◌≡◌, refl, ap, subst, ◌∙◌}
use mathlib.Core.Bool.{Bool}
use mathlib.Core.List.{List, ◌++◌}
use lib.ListN.{length, get_or, take, drop, length-drop, length-append, get_or-append}
use lib.Seq.{length-take-le, get_or-drop, get_or-append-add}
use Rattle.steps.specs.State.{State}
use Rattle.quarters.specs.Quarters.{quarter}
use Rattle.records.specs.Records.{Bodies, room, call_width}
use Rattle.records.proofs.Justification.{Proper}
use Rattle.tabling.proofs.Evidence.{Among}
use Rattle.tabling.proofs.Adding.{Outgrown}
use Rattle.tabling.proofs.Closed.{Whole}
use Rattle.tabling.proofs.Rewritten.{whole_same}
use Rattle.radix.proofs.Names.{word_at}
use Rattle.desk.specs.Desk.{packed_width, AnswersOpen, CallsOpen}
use Rattle.index.specs.Index.{CallIndex, AnswersKeyed, answer_notes}
use Rattle.arranging.proofs.OrderLaws.{covers_kept}
use Rattle.invariants.proofs.Going.{in_words}
use Rattle.stowing.specs.Stowing.{freed_words}
use Rattle.joint.specs.Joint.{RowsFilled}
use Rattle.balancing.specs.Balancing.{call_room, answer_room, FilledAside}

-- ---- the words

module _ (words part : List ℕ) (k : ℕ) (long : length part ≡ k) where
  -- Past the part the words stay.
  pub past_part : (p : ℕ) → k ≤ p → get_or (part ++ drop k words) p 0 ≡ get_or words p 0
  past_part p l =
      word_at (part ++ drop k words) {q = length part + (p - k)} (omega (arith, long))
      ∙ get_or-append-add part (drop k words) (p - k) 0
      ∙ get_or-drop k words (p - k) 0
      ∙ word_at words {p = k + (p - k)} (omega arith)

  pub part_long : k ≤ length words → length (part ++ drop k words) ≡ length words
  part_long l = omega (arith, length-append part (drop k words), length-drop k words, long)

-- ---- the records

module _ (part rest : List ℕ) where
  in_part : (p : ℕ) → p < length part → get_or (part ++ rest) p 0 ≡ get_or part p 0
  in_part p l = get_or-append part rest 0 p l

  -- The index of the calls,
  pub call_index_part : {rows : List ℕ} {n : ℕ} → CallIndex rows part n → CallsOpen rows part n → CallIndex rows (part ++ rest) n
  call_index_part c o = record {
    covers = covers_kept c.covers (λ i l. refl)
        (λ k l. ap (λ (w : ℕ). quarter w 3) (in_part (0 + k) (omega (arith, o.listed))))
        (λ i l. ap (λ (w : ℕ). quarter w 2) (in_part (0 + i) (omega (arith, o.listed, o.stored.fits, o.stored.most))));
  }

  pub calls_open_part : {rows : List ℕ} {n : ℕ} → CallsOpen rows part n → CallsOpen rows (part ++ rest) n
  calls_open_part o = record { stored = o.stored; listed = omega (arith, o.listed, length-append part rest) }

  module _ {most m : ℕ} (o : AnswersOpen most part m) where
    pub answers_open_part : AnswersOpen most (part ++ rest) m
    answers_open_part = record { fits = o.fits; small = o.small; long = omega (arith, o.long, length-append part rest) }

    -- that of the answers,
    pub keyed_part : AnswersKeyed most part m → AnswersKeyed most (part ++ rest) m
    keyed_part c = covers_kept c
        (λ i l. rw (in_part (packed_width * i) (omega (arith, o.long, o.fits)), in_part (packed_width * i + 1) (omega (arith, o.long, o.fits))) refl)
        (λ k l. ap (λ (w : ℕ). quarter w 3) (in_part (answer_notes most + k) (omega (arith, o.long))))
        (λ i l. ap (λ (w : ℕ). quarter w 2) (in_part (answer_notes most + i) (omega (arith, o.long, o.fits))))

    -- and the records, closed as they were.
    pub whole_part : (rows : List ℕ) (n : ℕ) {bodies : Bodies} {Root : ℕ → State → Type 0} → Proper bodies → Whole bodies Root 0 (in_words rows n part m)
        → Whole bodies Root 0 (in_words rows n (part ++ rest) m)
    whole_part rows n proper W = whole_same (record {
      calls_count = refl;
      answers_count = refl;
      calls = λ i l. record { action = refl; state = refl; round = refl };
      answers = λ x l. record {
        call = in_part (packed_width * x) (omega (arith, o.long, o.fits));
        final = in_part (packed_width * x + 1) (omega (arith, o.long, o.fits));
        rule = in_part (packed_width * x + 2) (omega (arith, o.long, o.fits));
        evidence = λ q h. ap (λ (w : ℕ). quarter w (q % 4)) (in_part (packed_width * x + 4 + q / 4) (omega (arith, o.long, o.fits)));
        round = in_part (packed_width * x + 3) (omega (arith, o.long, o.fits));
      };
    }) proper W

-- ---- both tables

-- A run has as many places for calls as the table.
rooms : (rows calls : List ℕ) → length rows ≡ call_width * call_room calls → room call_width (length rows) ≡ call_room calls
rooms rows calls long = omega (arith, long)

module _ {bodies : Bodies} {roots : List (ℕ × State)} {rows calls answers rows' part part' : List ℕ} {full : Bool} {n m : ℕ} (proper : Proper bodies)
    (long : length rows ≡ call_width * call_room calls) where
  filled : RowsFilled bodies roots (answer_room answers) rows (take (call_room calls) calls) (take (freed_words * answer_room answers) answers) rows' part part' full n m
      → FilledAside bodies roots rows calls answers rows' (part ++ drop (call_room calls) calls) (part' ++ drop (freed_words * answer_room answers) answers) full n m
  filled F =
      let inside : call_room calls ≤ length calls = omega arith in
      let inside' : freed_words * answer_room answers ≤ length answers = omega arith in
      let k : length part ≡ call_room calls = F.list_long ∙ length-take-le (call_room calls) calls inside in
      let k' : length part' ≡ freed_words * answer_room answers = F.answers_long ∙ length-take-le (freed_words * answer_room answers) answers inside' in
      record {
        spared = record {
          rows_long = F.calls_long;
          calls_long = part_long calls part (call_room calls) k inside;
          answers_long = part_long answers part' (freed_words * answer_room answers) k' inside';
          calls_kept = past_part calls part (call_room calls) k;
          answers_kept = past_part answers part' (freed_words * answer_room answers) k';
        };
        kept = λ e. record { calls_open = calls_open_part part _ (F.kept e).calls_open; answers_open = answers_open_part part' _ (F.kept e).answers_open };
        calls_index = λ e. call_index_part part _ (F.indexed e).of_calls (F.kept e).calls_open;
        answers_index = λ e. keyed_part part' _ (F.kept e).answers_open (F.indexed e).of_answers.covers;
        whole = λ e. whole_part part' _ (F.kept e).answers_open rows' n proper (F.whole e);
        outgrown = λ e. subst (λ (k : ℕ). Outgrown bodies (Among roots) k (answer_room answers)) (rooms rows calls long) (F.outgrown e);
      }

  -- A run in the first words of both tables, as many as records put aside leave free.
  pub filled_aside : (places most : ℕ) → places ≡ call_room calls → most ≡ answer_room answers
      → RowsFilled bodies roots most rows (take places calls) (take (freed_words * most) answers) rows' part part' full n m
      → FilledAside bodies roots rows calls answers rows' (part ++ drop places calls) (part' ++ drop (freed_words * most) answers) full n m
  filled_aside places most e f = rw (e, f) filled
