use Rattle.std.proofs.Common.{◌<◌, length, subst, ◌∙◌}
use Rattle.cover_lines.specs.Added.{AddsCubeLines}
use Rattle.cover_lines.proofs.AddLemmas.{cubes_more}
use Rattle.cover_lines.proofs.walking.push_piece_lines.Goals as goal

pub loop-of-preserved : goal.loop-of-preserved
loop-of-preserved g c =
    let p = c.args.protocol.now in
    let cubes = g.F.Finder.list c.args.finder.now in
    let invariant = c.loop-of.invariant in
    let called = c.push_cube_lines.ensures in
    let below : c.loop-of.of < length cubes = subst (λ n. c.loop-of.of < n) c.count-of-end.ensures c.loop-of-test.true in
    record {
      made = called.made;
      serves = called.serves;
      same = called.same ∙ invariant.same;
      lines = cubes_more p cubes c.loop-of.of c.args.lines.now c.loop-of.lines c.push_cube_lines.new.lines below invariant.lines
          (subst (λ cs. AddsCubeLines p cs c.loop-of.of c.loop-of.lines c.push_cube_lines.new.lines) invariant.same c.in_ok-push_cube_lines.ensures.lines);
    }
