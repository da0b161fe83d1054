-- `read` meets its contract: the outcome of the scan, and the rule words copied where they have room. Assumes nothing.
use Rattle.std.proofs.Common.{sym, ap, ◌∙◌, length}
use Rattle.refusals.specs.Number.{number_of}
use Rattle.lines.specs.Reader.{read_sheet}
use Rattle.sheet.specs.Result.{refusal}
use Rattle.sheet.proofs.Results.{result_refused, rules_refused, result_short, rules_short, result_read, rules_read}
use Rattle.sheet.proofs.read.Goals as goal

pub returns-in-Err : goal.returns-in-Err
returns-in-Err c =
    let s = c.args.sheet.now in
    let m = c.args.rules.now in
    record {
      value = c.refused.ensures ∙ sym (result_refused (length m) m (read_sheet s) _ _ (sym c.in-Err.ensures));
      rules_after = sym (rules_refused (length m) m (read_sheet s) _ _ (sym c.in-Err.ensures));
    }

pub returns-then-rules-used : goal.returns-then-rules-used
returns-then-rules-used c =
    let s = c.args.sheet.now in
    let m = c.args.rules.now in
    let w = c.scan_sheet.new.words in
    let b = c.in-Ok.said in
    record {
      value =
          c.refused-then-rules-used.ensures ∙ ap (λ f. refusal (number_of f.refusal) f.line) c.from.ensures
          ∙ sym (result_short m w b (read_sheet s) (sym c.in-Ok.ensures) c.if-rules-used.true);
      rules_after = sym (rules_short m w b (read_sheet s) (sym c.in-Ok.ensures) c.if-rules-used.true);
    }

pub returns : goal.returns
returns c =
    let s = c.args.sheet.now in
    let m = c.args.rules.now in
    let w = c.scan_sheet.new.words in
    let b = c.in-Ok.said in
    record {
      value = sym (result_read m w b (read_sheet s) (sym c.in-Ok.ensures) c.if-rules-used.false);
      rules_after = rw c.copy_from_slice.ensures.after (sym (rules_read m w b (read_sheet s) (sym c.in-Ok.ensures) c.if-rules-used.false));
    }
