use Rattle.std.proofs.Common.{◌++◌, [], ◌∷◌, get_or, take, ap, sym, ◌∙◌}
use Rattle.cub_proto.specs.declared.state.Slot.TheVariants as Slot
use Rattle.cub_proto.specs.declared.state.Val.TheVariants.{Con}
use Rattle.text_lines.specs.Line.{text_of}
use Rattle.text_lines.specs.Spelling.{entry_text}
use Rattle.trace_text.specs.Text.{global_lines}
use Rattle.trace_text.proofs.WriteLaws.{global_taken, pushed}
use Rattle.trace_text.proofs.writer.push_globals.Goals as goal

pub loop-global-preserved : goal.loop-global-preserved
loop-global-preserved c =
    let front = c.args.out.now.items in
    let done = text_of (global_lines c.args.protocol.now (take c.loop-global.global c.args.globals.now)) in
    let entry = entry_text c.args.protocol.now (Slot.Global c.loop-global.global) (get_or c.args.globals.now c.loop-global.global (Con 0)) in
    c.in_ok-end_line.ensures ∙ ap (λ xs. xs ++ 10 ∷ []) (c.in_ok-push_entry.ensures ∙ ap (λ xs. xs ++ entry) c.loop-global.invariant) ∙ pushed front done entry
    ∙ ap (λ xs. front ++ xs) (sym (global_taken c.args.protocol.now c.args.globals.now c.loop-global.global (Con 0) c.loop-global-test.true))
