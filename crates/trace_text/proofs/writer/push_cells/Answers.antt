use Rattle.std.proofs.Common.{◌++◌, [], ◌∷◌, get_or, take, ap, sym, ◌∙◌}
use Rattle.cub_proto.specs.declared.state.Slot.TheVariants as Slot
use Rattle.cub_proto.specs.declared.state.Val.TheVariants.{Con}
use Rattle.text_lines.specs.Line.{text_of}
use Rattle.text_lines.specs.Spelling.{entry_text}
use Rattle.trace_text.specs.Text.{cell_lines}
use Rattle.trace_text.proofs.WriteLaws.{cell_taken, pushed}
use Rattle.trace_text.proofs.writer.push_cells.Goals as goal

pub loop-process-preserved : goal.loop-process-preserved
loop-process-preserved c =
    let front = c.args.out.now.items in
    let done = text_of (cell_lines c.args.protocol.now c.args.array (take c.loop-process.process c.args.cells.now)) in
    let entry = entry_text c.args.protocol.now (Slot.Cell c.args.array c.loop-process.process) (get_or c.args.cells.now c.loop-process.process (Con 0)) in
    c.in_ok-end_line.ensures ∙ ap (λ xs. xs ++ 10 ∷ []) (c.in_ok-push_entry.ensures ∙ ap (λ xs. xs ++ entry) c.loop-process.invariant) ∙ pushed front done entry
    ∙ ap (λ xs. front ++ xs) (sym (cell_taken c.args.protocol.now c.args.array c.args.cells.now c.loop-process.process (Con 0) c.loop-process-test.true))
