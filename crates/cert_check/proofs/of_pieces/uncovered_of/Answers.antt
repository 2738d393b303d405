use Rattle.std.proofs.Common.{List, sym, subst}
use Rattle.piece_choices.specs.declared.piece.Piece.{Piece}
use Rattle.piece_choices.specs.Pieces.{ArePieces}
use Rattle.cert_check.specs.Listed.{CoveredIn}
use Rattle.cert_check.specs.Obligations.{PieceCovered}
use Rattle.cert_check.proofs.Owing.{pieces_askable, match_same, covered_piece, piece_covered}
use Rattle.cert_check.proofs.of_pieces.uncovered_of.Goals as goal

pub uncovered_in-found-requires-clause-askable : goal.uncovered_in-found-requires-clause-askable
uncovered_in-found-requires-clause-askable c =
    let are : ArePieces c.args.protocol.now c.args.cube.now c.as_slice.result.now = subst (λ (ys : List Piece). ArePieces c.args.protocol.now c.args.cube.now ys) (sym c.as_slice.ensures) c.in_ok-list.ensures.value in
    pieces_askable c.args.protocol.now c.args.cube.now c.as_slice.result.now c.requires.expandable are

pub returns-clause-first : goal.returns-clause-first
returns-clause-first c =
    let are : ArePieces c.args.protocol.now c.args.cube.now c.as_slice.result.now = subst (λ (ys : List Piece). ArePieces c.args.protocol.now c.args.cube.now ys) (sym c.as_slice.ensures) c.in_ok-list.ensures.value in
    match_same c.uncovered_in-found.result (CoveredIn c.args.protocol.now c.args.cubes.now c.as_slice.result.now) (PieceCovered c.args.protocol.now c.args.cubes.now c.args.k)
    (covered_piece c.args.protocol.now c.args.cubes.now c.args.k c.args.cube.now c.as_slice.result.now c.requires.its are)
    (piece_covered c.args.protocol.now c.args.cubes.now c.args.k c.args.cube.now c.as_slice.result.now c.requires.its are) c.uncovered_in-found.ensures.first
