use Rattle.std.proofs.Common.{arith}
use Rattle.std.proofs.lemmas.Slice.Zip.{AllZip-long}
use Rattle.tables.proofs.answers.push_arrays.Goals as goal

pub cells-requires : goal.cells-requires
cells-requires c =
    let end = c.len-array-end.ensures in
    let test = c.loop-array-test.true in
    omega (arith, AllZip-long _ c.args.protocol.now.arrays c.args.state.now.arrays c.requires.arrays_fit)
