-- What a round of the code leaves, told by record numbers, is what it leaves told by rows: found over them, with a justification as good as any.
-- Assumes nothing.
use Prim.Native.Nat.{ℕ, ◌<◌}
use native.Mathlib.Omega.{arith}
use mathlib.Core.Path.{◌≡◌, refl, sym, ap, subst, ◌∙◌}
use mathlib.Core.Bool.{true}
use mathlib.Core.List.{List, map}
use mathlib.Core.Logic.{◌⊎◌, inl, inr}
use lib.ListN.{get_or, length, length-map}
use lib.Seq.{ext_get_or}
use Rattle.steps.specs.State.{State}
use Rattle.steps.specs.Run.{Goal}
use Rattle.steps.specs.Words.{body_of}
use Rattle.records.specs.Records.{Bodies, bodies_of}
use Rattle.records.proofs.Growth.{Tables, Inside, grew_refl}
use Rattle.tabling.proofs.Sweep.{Way, Less}
use Rattle.tabling.proofs.Moves.{EdgeT}
use Rattle.tabling.proofs.Found.{FoundCall, FoundBy, Rounded}
use Rattle.tabling.proofs.Found as found
use Rattle.canonical.specs.Order.{Key}
use Rattle.canonical.specs.Rows.{CallRow, AnswerRow, Rows, numbers}
use Rattle.canonical.proofs.Onward.{Shows}
use Rattle.canonical.proofs.Ways.{Along, Comes, along_long}
use Rattle.canonical.proofs.Routes.{less_lex, along_way, way_along, reach_comes}
use Rattle.canonical.proofs.Found.{CallFound, AnswerFound}
use Rattle.canonical.proofs.OneRound.{AsGood}
use Rattle.canonical.proofs.TableRows.{numbers_length, numbers_at, call_row, answer_row, rows_of, rows_calls, rows_call, rows_shows, Left}

module _ (rules goal : List ℕ) where
  abbrev bodies : Bodies
  bodies = bodies_of rules goal

  -- the step words of a rule, the same for every action
  abbrev body : ℕ → List ℕ
  body rule = bodies.words rule Goal

  -- evidence by places as a list
  abbrev listed : (ℕ → ℕ) → ℕ → List ℕ
  listed ev rule = map ev (numbers 0 (length (body rule)))

  listed_at : (ev : ℕ → ℕ) (rule q : ℕ) → q < length (body rule) → get_or (listed ev rule) q 0 ≡ ev q
  listed_at ev rule q l = numbers_at ev 0 0 (length (body rule)) q l ∙ ap ev (omega arith)

  module _ (b : Tables) (inside : Inside b b.answers.count) where
    abbrev t : Rows
    t = rows_of bodies b

    abbrev known : ℕ
    known = b.answers.count

    shows : Shows t b known
    shows = rows_shows bodies b (grew_refl b) inside

    call_over : (d : ℕ × State) → FoundCall bodies b known d → CallFound rules goal t d
    unfolding call_row
    call_over d f =
        let e = sym (rows_call bodies b f.row f.row_in) in
        record {
          row = f.row;
          row_in = omega (arith, f.row_in, rows_calls bodies b);
          rule = f.rule;
          fits = subst (λ (c : CallRow). bodies.fits f.rule c.action ≡ true) e f.fits;
          comes = subst (λ (c : CallRow). Comes t (body_of (body f.rule)) c.state d) e
              (reach_comes t shows (body f.rule) f.way f.inside f.comes);
        }

    answer_over : (row rule : ℕ) (ev : ℕ → ℕ) (s : State) (r : ℕ) → FoundBy bodies b known row rule ev s
        → AnswerFound rules goal t (record { call = row; final = s; rule = rule; evidence = listed ev rule; round = r })
    unfolding call_row
    answer_over row rule ev s r f =
        let e = sym (rows_call bodies b row f.row_in) in
        let w = way_along t shows (body rule) (listed ev rule) (numbers_length ev 0 (length (body rule))) (listed_at ev rule) f.way in
        record {
          call_in = omega (arith, f.row_in, rows_calls bodies b);
          fits = subst (λ (c : CallRow). bodies.fits rule c.action ≡ true) e f.fits;
          along = subst (λ (c : CallRow). Along t (body_of (body rule)) c.state (listed ev rule) s) e w;
        }

    -- and back
    found_by : (y : AnswerRow) → AnswerFound rules goal t y → FoundBy bodies b known y.call y.rule (λ q. get_or y.evidence q 0) y.final
    unfolding call_row
    found_by y f =
        let l : y.call < b.calls.count = omega (arith, f.call_in, rows_calls bodies b) in
        let e = rows_call bodies b y.call l in
        let ws = body y.rule in
        record {
          row_in = l;
          fits = subst (λ (c : CallRow). bodies.fits y.rule c.action ≡ true) e f.fits;
          way = subst (λ (c : CallRow). Way (EdgeT b known ws) (λ q. get_or y.evidence q 0) c.state (length ws) y.final) e (along_way t shows ws f.along);
        }

    good_over : (x y : AnswerRow) (ev : ℕ → ℕ) → x.evidence ≡ listed ev x.rule → AnswerFound rules goal t y
        → found.AsGood (length (body x.rule)) x.rule ev y.rule (λ q. get_or y.evidence q 0) → AsGood x y
    good_over x y ev z f (inl l) = inr (inl l)
    good_over x y ev z f (inr (e, g)) = by g
      where
        long : length x.evidence ≡ length (body x.rule)
        long = ap length z ∙ numbers_length ev 0 (length (body x.rule))

        as_long : length x.evidence ≡ length y.evidence
        as_long = long ∙ ap (λ (k : ℕ). length (body k)) e ∙ sym (rw length-map at (along_long t f.along))

        at : (q : ℕ) → q < length (body x.rule) → get_or x.evidence q 0 ≡ ev q
        at q l = ap (λ (es : List ℕ). get_or es q 0) z ∙ listed_at ev x.rule q l

        by : ((q : ℕ) → q < length (body x.rule) → ev q ≡ get_or y.evidence q 0) ⊎ Less ev (λ q. get_or y.evidence q 0) (length (body x.rule))
            → AsGood x y
        by (inl same) =
            inl (e, ext_get_or 0 x.evidence y.evidence as_long (λ q l. (let h : q < length (body x.rule) = omega (arith, long) in at q h ∙ same q h)))
        by (inr (q, l, less, before)) =
            let first : Less (λ p. get_or x.evidence p 0) (λ p. get_or y.evidence p 0) (length x.evidence) =
            (q, omega (arith, long), omega (arith, at q l), λ p k. at p (omega arith) ∙ before p k) in
            inr (inr (e, less_lex x.evidence y.evidence as_long first))

  -- A round of the code leaves what a round over its rows leaves.
  pub rounded_left : {r : ℕ} {b u : Tables} → Rounded bodies r b u → Left rules goal r b u
  unfolding answer_row
  rounded_left {r} {b} {u} R =
      let M = R.gathered.made in
      record {
        inside = R.inside;
        short = R.short;
        grew = M.grew;
        calls_once = R.calls_once;
        answers_once = R.answers_once;
        calls_rise = R.calls_rise;
        answers_rise = R.answers_rise;
        call_found = λ i h l. (call_over b R.inside (u.calls.action i, u.calls.state i) (M.call_found i h l).0, (M.call_found i h l).1);
        answer_found = λ x h l.
            (let (f, e) = M.answer_found x h l in
            (answer_over b R.inside (u.answers.call x) (u.answers.rule x) (u.answers.evidence x) (u.answers.final x) (u.answers.round x) f, e));
        best = λ x y h l f k. good_over b R.inside (answer_row bodies u x) y (u.answers.evidence x) refl f
            (M.best x h l y.rule (λ q. get_or y.evidence q 0)
            (subst (λ (k : Key). FoundBy bodies b b.answers.count k.0 y.rule (λ q. get_or y.evidence q 0) k.1) k (found_by b R.inside y f)));
        closed = R.gathered.closed;
      }
