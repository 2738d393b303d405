use Rattle.std.proofs.Common.{◌≡◌, ◌++◌, take, map}
use Rattle.text_lines.specs.Line.{text_of}
use Rattle.cube_text.specs.Text.{cube_text}
use Rattle.cert_text.proofs.writer.push_cubes.Given as goal

abbrev pub invariant-loop-cube : goal.invariant-loop-cube
invariant-loop-cube l = l.out.items ≡ l.fn.out.items ++ text_of (map (cube_text l.protocol) (take l.cube-index l.cubes))
