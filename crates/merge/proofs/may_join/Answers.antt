-- `may_join` meets its contract. Assumes nothing.
use borrow.Author.Tests.{lt-ltb, le-ltb}
use mathlib.Core.Path.{◌≡◌, refl, ap, sym, ◌∙◌}
use mathlib.Core.Bool.{Bool, true, false}
use mathlib.Core.List.{List}
use Prim.Native.Nat.{ℕ, ◌-◌}
use native.Mathlib.Omega.{arith}
use lib.ListN.{length}
use Rattle.chars.specs.Bytes.{text}
use Rattle.chars.specs.Pieces.{lines}
use Rattle.chars.specs.Places.{meets}
use Rattle.parts.specs.Parts.{section}
use Rattle.parts.proofs.PartLists.{parts_length}
use Rattle.parts.specs.declared.Word.{Word}
use Rattle.merge.specs.Joined.{together}
use Rattle.merge.specs.Inner.{Holds}
use Rattle.merge.proofs.may_join.Goals as goal

-- parts of two words meet
meets_as : (X X' Y Y' : List (List ℕ)) (v : Bool) → X ≡ X' → Y ≡ Y' → meets X Y ≡ v → meets X' Y' ≡ v
meets_as X X' Y Y' v e f h = ap (λ (z : List (List ℕ)). meets z Y') (sym e) ∙ ap (meets X) (sym f) ∙ h

-- how many parts of a word there are
counted : (u list : List ℕ) (w : Word) (A B : List (List ℕ)) → Holds u list w A B → w.end - w.own ≡ length (together A B)
counted u list w A B h = sym (parts_length u list w.own (w.end - w.own)) ∙ ap length h.both

pub meet-requires : goal.meet-requires
meet-requires c =
    let p = c.requires in
    let (i, j, k) = p.fluents.order in
    let (l, m, n) = p.actions.order in
    let (o, q, r, s) = p.order in
    record { inside = λ x h. p.inside x (omega arith); inside_2 = λ x h. p.inside x (omega arith); lo_le_hi = (omega arith, omega arith) }

pub returns-then-meet : goal.returns-then-meet
returns-then-meet c = rw ((let first_meet : (v : Bool) → c.meet.result ≡ v → meets (section (text "fluent") (lines c.args.first.now)) (section (text "action") (lines c.args.second.now)) ≡ v = (λ v h. meets_as _ _ _ _ v c.requires.fluents.first c.requires.actions.second (sym c.meet.ensures ∙ h)) in first_meet) true c.if-meet.true) refl

pub meet-requires-2 : goal.meet-requires-2
meet-requires-2 c =
    let p = c.requires in
    let (i, j, k) = p.fluents.order in
    let (l, m, n) = p.actions.order in
    let (o, q, r, s) = p.order in
    record { inside = λ x h. p.inside x (omega arith); inside_2 = λ x h. p.inside x (omega arith); lo_le_hi = (omega arith, omega arith) }

pub returns-then-meet-2 : goal.returns-then-meet-2
returns-then-meet-2 c = rw ((let first_meet : (v : Bool) → c.meet.result ≡ v → meets (section (text "fluent") (lines c.args.first.now)) (section (text "action") (lines c.args.second.now)) ≡ v = (λ v h. meets_as _ _ _ _ v c.requires.fluents.first c.requires.actions.second (sym c.meet.ensures ∙ h)) in first_meet) false c.if-meet.false, (let second_meet : (v : Bool) → c.meet-2.result ≡ v → meets (section (text "action") (lines c.args.first.now)) (section (text "fluent") (lines c.args.second.now)) ≡ v = (λ v h. meets_as _ _ _ _ v c.requires.actions.first c.requires.fluents.second (sym c.meet-2.ensures ∙ h)) in second_meet) true c.if-meet-2.true) refl

pub overflow_sub-f : goal.overflow_sub-f
overflow_sub-f c = let (i, j, k) = c.requires.fluents.order in omega arith

pub returns-then-f-gt64 : goal.returns-then-f-gt64
returns-then-f-gt64 c =
    let n = counted _ _ _ _ _ c.requires.fluents in
    rw ((let first_meet : (v : Bool) → c.meet.result ≡ v → meets (section (text "fluent") (lines c.args.first.now)) (section (text "action") (lines c.args.second.now)) ≡ v = (λ v h. meets_as _ _ _ _ v c.requires.fluents.first c.requires.actions.second (sym c.meet.ensures ∙ h)) in first_meet) false c.if-meet.false, (let second_meet : (v : Bool) → c.meet-2.result ≡ v → meets (section (text "action") (lines c.args.first.now)) (section (text "fluent") (lines c.args.second.now)) ≡ v = (λ v h. meets_as _ _ _ _ v c.requires.actions.first c.requires.fluents.second (sym c.meet-2.ensures ∙ h)) in second_meet) false c.if-meet-2.false, lt-ltb 64 (length (together (section (text "fluent") (lines c.args.first.now)) (section (text "fluent") (lines c.args.second.now)))) (omega (arith, c.if-f-gt64.true))) refl

pub overflow_sub-a : goal.overflow_sub-a
overflow_sub-a c = let (i, j, k) = c.requires.actions.order in omega arith

pub returns-then-a-gt64 : goal.returns-then-a-gt64
returns-then-a-gt64 c =
    let n = counted _ _ _ _ _ c.requires.fluents in
    let m = counted _ _ _ _ _ c.requires.actions in
    rw ((let first_meet : (v : Bool) → c.meet.result ≡ v → meets (section (text "fluent") (lines c.args.first.now)) (section (text "action") (lines c.args.second.now)) ≡ v = (λ v h. meets_as _ _ _ _ v c.requires.fluents.first c.requires.actions.second (sym c.meet.ensures ∙ h)) in first_meet) false c.if-meet.false, (let second_meet : (v : Bool) → c.meet-2.result ≡ v → meets (section (text "action") (lines c.args.first.now)) (section (text "fluent") (lines c.args.second.now)) ≡ v = (λ v h. meets_as _ _ _ _ v c.requires.actions.first c.requires.fluents.second (sym c.meet-2.ensures ∙ h)) in second_meet) false c.if-meet-2.false, le-ltb 64 (length (together (section (text "fluent") (lines c.args.first.now)) (section (text "fluent") (lines c.args.second.now)))) (omega (arith, c.if-f-gt64.false)), lt-ltb 64 (length (together (section (text "action") (lines c.args.first.now)) (section (text "action") (lines c.args.second.now)))) (omega (arith, c.if-a-gt64.true))) refl

pub overflow_sub-r : goal.overflow_sub-r
overflow_sub-r c = let (i, j, k) = c.requires.rules.order in omega arith

pub returns-then-r-gt256 : goal.returns-then-r-gt256
returns-then-r-gt256 c =
    let n = counted _ _ _ _ _ c.requires.fluents in
    let m = counted _ _ _ _ _ c.requires.actions in
    let o = counted _ _ _ _ _ c.requires.rules in
    rw ((let first_meet : (v : Bool) → c.meet.result ≡ v → meets (section (text "fluent") (lines c.args.first.now)) (section (text "action") (lines c.args.second.now)) ≡ v = (λ v h. meets_as _ _ _ _ v c.requires.fluents.first c.requires.actions.second (sym c.meet.ensures ∙ h)) in first_meet) false c.if-meet.false, (let second_meet : (v : Bool) → c.meet-2.result ≡ v → meets (section (text "action") (lines c.args.first.now)) (section (text "fluent") (lines c.args.second.now)) ≡ v = (λ v h. meets_as _ _ _ _ v c.requires.actions.first c.requires.fluents.second (sym c.meet-2.ensures ∙ h)) in second_meet) false c.if-meet-2.false, le-ltb 64 (length (together (section (text "fluent") (lines c.args.first.now)) (section (text "fluent") (lines c.args.second.now)))) (omega (arith, c.if-f-gt64.false)), le-ltb 64 (length (together (section (text "action") (lines c.args.first.now)) (section (text "action") (lines c.args.second.now)))) (omega (arith, c.if-a-gt64.false)), lt-ltb 256 (length (together (section (text "rule") (lines c.args.first.now)) (section (text "rule") (lines c.args.second.now)))) (omega (arith, c.if-r-gt256.true))) refl

pub returns : goal.returns
returns c =
    let n = counted _ _ _ _ _ c.requires.fluents in
    let m = counted _ _ _ _ _ c.requires.actions in
    let o = counted _ _ _ _ _ c.requires.rules in
    rw ((let first_meet : (v : Bool) → c.meet.result ≡ v → meets (section (text "fluent") (lines c.args.first.now)) (section (text "action") (lines c.args.second.now)) ≡ v = (λ v h. meets_as _ _ _ _ v c.requires.fluents.first c.requires.actions.second (sym c.meet.ensures ∙ h)) in first_meet) false c.if-meet.false, (let second_meet : (v : Bool) → c.meet-2.result ≡ v → meets (section (text "action") (lines c.args.first.now)) (section (text "fluent") (lines c.args.second.now)) ≡ v = (λ v h. meets_as _ _ _ _ v c.requires.actions.first c.requires.fluents.second (sym c.meet-2.ensures ∙ h)) in second_meet) false c.if-meet-2.false, le-ltb 64 (length (together (section (text "fluent") (lines c.args.first.now)) (section (text "fluent") (lines c.args.second.now)))) (omega (arith, c.if-f-gt64.false)), le-ltb 64 (length (together (section (text "action") (lines c.args.first.now)) (section (text "action") (lines c.args.second.now)))) (omega (arith, c.if-a-gt64.false)), le-ltb 256 (length (together (section (text "rule") (lines c.args.first.now)) (section (text "rule") (lines c.args.second.now)))) (omega (arith, c.if-r-gt256.false))) refl
