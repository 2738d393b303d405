use Rattle.std.proofs.Common.{◌∙◌, ◌++◌, ap}
use Rattle.predecessors.specs.declared.walking.PieceCubes.{PieceCubes}
use Rattle.predecessors.specs.Predecessors.{cubes_of}
use Rattle.predecessors.proofs.WalkLemmas.{cubes_listed}
use Rattle.predecessors.proofs.walking.piece_cubes.Goals as goal

pub returns-clause-value : goal.returns-clause-value
returns-clause-value c =
    let (list, are, taken) = c.in_ok-each_piece.ensures.handed in
    let first : PieceCubes = record { cubes = c.new.result } in
    (list, are, cubes_listed first list c.each_piece.new.receiver taken ∙ ap (λ us. us ++ cubes_of list) c.new.ensures)
