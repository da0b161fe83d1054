-- `Names::step` meets its contract, by the mark and the name behind it. Assumes nothing.
use Rattle.std.proofs.Common.{◌<◌, ◌+◌, ◌*◌, ◌-◌, sym, ap, ◌∙◌, get_or, take, drop, length, arith}
use Rattle.chars.proofs.Names.{parted}
use Rattle.fields.specs.declared.names.Kind.{Kind}
use Rattle.fields.specs.declared.names.Kind.TheVariants.{Query, Insert, Delete, Call, Deny}
use Rattle.fields.specs.Verdict.{accept}
use Rattle.fields.specs.Field.{step_word, used_name}
use Rattle.fields.specs.Held.{symbols_of, kind_place, step_from}
use Rattle.fields.proofs.Verdicts.{refused_with}
use Rattle.fields.proofs.FieldVerdicts.{step_empty, step_unmarked, step_marked}
use Rattle.fields.proofs.book.Names.step.Goals as goal

few : (k : Kind) → kind_place k < 5
few Query = omega arith
few Insert = omega arith
few Delete = omega arith
few Call = omega arith
few Deny = omega arith

pub returns-in_default-clause-word : goal.returns-in_default-clause-word
returns-in_default-clause-word c = sym (step_empty (symbols_of c.args.self.now) c.args.field.now c.in_default.len_below)

pub returns-in_default-of-clause-word : goal.returns-in_default-of-clause-word
returns-in_default-of-clause-word c =
    let y = symbols_of c.args.self.now in
    let l = c.args.field.now in
    sym (ap (step_word y) (parted l c.in-len1-up.len_at_least)
    ∙ step_unmarked y (get_or l 0 0) (take (length l - 1) (drop 1 l)) (sym c.in_default-of.ensures))

pub returns-in_err-index-clause-word : goal.returns-in_err-index-clause-word
returns-in_err-index-clause-word c =
    let y = symbols_of c.args.self.now in
    let l = c.args.field.now in
    let name = take (length l - 1) (drop 1 l) in
    let k = kind_place c.in-Some.kind in
    let u = ap (step_from k) (ap (λ names. used_name names name) (sym c.used_by.ensures) ∙ sym c.in_err-index.ensures.number) in
    refused_with _ c.from_residual.result _ c.from_residual.ensures.1
    ∙ sym (ap (step_word y) (parted l c.in-len1-up.len_at_least)
    ∙ step_marked y (get_or l 0 0) name k (sym c.in-Some.ensures) (few c.in-Some.kind) ∙ u)

pub returns-clause-word : goal.returns-clause-word
returns-clause-word c =
    let y = symbols_of c.args.self.now in
    let l = c.args.field.now in
    let name = take (length l - 1) (drop 1 l) in
    let k = kind_place c.in-Some.kind in
    let u = ap (step_from k) (ap (λ names. used_name names name) (sym c.used_by.ensures) ∙ sym c.in_ok-index.ensures.number) in
    ap (λ j. accept (256 * j + c.in_ok-index.index)) c.number.ensures.place
    ∙ sym (ap (step_word y) (parted l c.in-len1-up.len_at_least)
    ∙ step_marked y (get_or l 0 0) name k (sym c.in-Some.ensures) (few c.in-Some.kind) ∙ u)
