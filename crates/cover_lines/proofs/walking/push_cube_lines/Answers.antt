use Rattle.std.proofs.Common.{List, All, sym, subst}
use Rattle.piece_choices.specs.declared.piece.Piece.{Piece}
use Rattle.piece_choices.specs.Pieces.{ArePieces}
use Rattle.cover_lines.specs.Added.{MayCover}
use Rattle.cover_lines.proofs.LogLemmas.{pieces_may}
use Rattle.cover_lines.proofs.walking.push_cube_lines.Goals as goal

pub push_lines_of-requires-clause-may : goal.push_lines_of-requires-clause-may
push_lines_of-requires-clause-may g c =
    let p = c.args.protocol.now in
    let cubes = g.F.Finder.list c.args.finder.now in
    let list = c.in_ok-list.list in
    subst (λ (xs : List Piece). All (λ (x : Piece). MayCover p cubes x.cube) xs) (sym c.as_slice.ensures)
    (pieces_may p cubes c.args.of list c.requires.inside c.requires.expandable c.requires.passes (subst (λ d. ArePieces p d list) c.cube.ensures c.in_ok-list.ensures.value))
