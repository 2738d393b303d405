use Rattle.std.proofs.Common.{◌≡◌, true, sym, ◌∙◌}
use Rattle.replay.specs.FitsStart.{is_start_value}
use Rattle.text_lines.specs.Spelling.{entry_text}
use Rattle.trace_text.proofs.Refused.{no_value, differs}
use Rattle.trace_text.proofs.lines.value_of.Goals as goal

pub returns-then-not-is_start_value-clause-none : goal.returns-then-not-is_start_value-clause-none
returns-then-not-is_start_value-clause-none c =
    no_value c.args.protocol.now c.args.processes c.args.slot c.args.line.now c.entry_value-val.result c.entry_value-val.ensures
    (λ t.
    let fits : is_start_value c.args.protocol.now c.args.processes c.args.slot c.entry_value-val.result ≡ true = t.fits in
    let test = c.is_start_value.ensures in
    let answer = c.if-not-is_start_value.true in
    cc)

pub returns-then-not-branch-clause-none : goal.returns-then-not-branch-clause-none
returns-then-not-branch-clause-none c =
    no_value c.args.protocol.now c.args.processes c.args.slot c.args.line.now c.entry_value-val.result c.entry_value-val.ensures
    (λ t. differs (entry_text c.args.protocol.now c.args.slot c.entry_value-val.result) c.args.line.now
    (sym c.in_ok-entry_is_written.ensures ∙ c.if-not-branch.true) t.text)
