use Rattle.std.proofs.Common.{arith}
use Rattle.log_form.proofs.Covered.{at_covered}
use Rattle.cover_lines.proofs.covering.first_cover.Goals as goal

pub unreachable-requires : goal.unreachable-requires
unreachable-requires g c =
    let (i, below, covers) = at_covered c.args.protocol.now (g.F.Finder.list c.args.finder.now) c.args.cube.now c.requires.covered in
    absurd (c.in-None.ensures.first i (omega arith) below covers)
