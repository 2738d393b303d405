use Rattle.std.proofs.Common.{◌++◌, take, ap, sym, ◌∙◌, arith, append_assoc}
use Rattle.std.proofs.lemmas.List.{take_all}
use Rattle.std.proofs.lemmas.Slice.Zip.{AllZip-long}
use Rattle.text_lines.specs.Line.{text_of}
use Rattle.trace_text.specs.Text.{array_lines, cell_lines}
use Rattle.trace_text.proofs.WriteLaws.{array_taken}
use Rattle.trace_text.proofs.StartLaws.{state_cells}
use Rattle.trace_text.proofs.writer.push_arrays.Goals as goal

pub cells-requires : goal.cells-requires
cells-requires c =
    let end = c.len-array-end.ensures in
    let test = c.loop-array-test.true in
    omega (arith, AllZip-long _ c.args.protocol.now.arrays c.args.start.now.arrays c.requires.state.arrays_fit)

pub push_cells-requires : goal.push_cells-requires
push_cells-requires c =
    let end = c.len-array-end.ensures in
    let test = c.loop-array-test.true in
    let few = c.requires.few in
    let full = state_cells c.args.protocol.now c.args.start.now c.requires.state c.loop-array.array (omega arith) in
    rw c.cells.ensures (omega arith)

pub loop-array-preserved : goal.loop-array-preserved
loop-array-preserved c =
    let end = c.len-array-end.ensures in
    let test = c.loop-array-test.true in
    let s = c.args.start.now in
    let front = c.args.out.now.items in
    let done = text_of (array_lines c.args.protocol.now 0 (take c.loop-array.array s.arrays)) in
    let here = text_of (cell_lines c.args.protocol.now c.loop-array.array c.cells.result.now) in
    c.in_ok-push_cells.ensures ∙ ap (λ xs. xs ++ here) c.loop-array.invariant ∙ append_assoc front done here
    ∙ ap (λ xs. front ++ (done ++ text_of (cell_lines c.args.protocol.now c.loop-array.array xs))) c.cells.ensures
    ∙ ap (λ t. front ++ t)
    (sym (array_taken c.args.protocol.now s.arrays c.loop-array.array (omega (arith, AllZip-long _ c.args.protocol.now.arrays s.arrays c.requires.state.arrays_fit))))

pub returns : goal.returns
returns c =
    let end = c.len-array-end.ensures in
    let test = c.loop-array-test.false in
    let within = c.loop-array.auto.array-end in
    let s = c.args.start.now in
    c.loop-array.invariant
    ∙ ap (λ xs. c.args.out.now.items ++ text_of (array_lines c.args.protocol.now 0 xs))
    (take_all c.loop-array.array s.arrays (omega (arith, AllZip-long _ c.args.protocol.now.arrays s.arrays c.requires.state.arrays_fit)))
