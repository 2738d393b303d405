use Rattle.std.proofs.Common.{arith, ◌∙◌}
use Rattle.cub_proto.specs.Configuration.{cells_of}
use Rattle.replay.proofs.Cells.{cells_more, cells_whole}
use Rattle.replay.proofs.effect.copy_cells.Goals as goal

pub loop-process-preserved : goal.loop-process-preserved
loop-process-preserved c =
    let shape = c.requires.shape in
    let target = c.requires.target in
    let n = c.processes-process-end.ensures in
    let arrays = shape.arrays in
    c.set.ensures
    ∙ cells_more c.args.to.now c.args.array c.loop-process.process (cells_of c.args.from.now c.args.array) (omega (arith, target.0))
    (shape.cells c.args.array) c.loop-process.to c.get.result c.loop-process.invariant (omega (arith, target.1)) c.get.ensures

pub returns : goal.returns
returns c =
    let shape = c.requires.shape in
    let target = c.requires.target in
    let n = c.processes-process-end.ensures in
    let arrays = shape.arrays in
    cells_whole c.args.to.now c.args.array c.loop-process.process (cells_of c.args.from.now c.args.array) (omega (arith, target.0))
    (shape.cells c.args.array) c.loop-process.to c.loop-process.invariant (omega (arith, target.1))
