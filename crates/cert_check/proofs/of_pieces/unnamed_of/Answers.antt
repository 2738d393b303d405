use Rattle.std.proofs.Common.{◌+◌, List, length, sym, subst, arith, inl}
use Rattle.piece_choices.specs.declared.piece.Piece.{Piece}
use Rattle.piece_choices.specs.Pieces.{ArePieces}
use Rattle.cert_check.specs.declared.keys.Key.{Key}
use Rattle.cert_check.specs.Listed.{NamedIn}
use Rattle.cert_check.specs.Obligations.{PieceNamed, IsOwed}
use Rattle.cert_check.proofs.Order.{before_piece}
use Rattle.cert_check.proofs.Walking.{come_skip}
use Rattle.cert_check.proofs.Owing.{pieces_askable, pieces_end, match_same, named_piece, piece_named}
use Rattle.cert_check.proofs.of_pieces.unnamed_of.Goals as goal

pub unnamed_in-requires-clause-askable : goal.unnamed_in-requires-clause-askable
unnamed_in-requires-clause-askable c =
    let are : ArePieces c.args.protocol.now c.args.cube.now c.as_slice-list.result.now = subst (λ (ys : List Piece). ArePieces c.args.protocol.now c.args.cube.now ys) (sym c.as_slice-list.ensures) c.in_ok-list.ensures.value in
    pieces_askable c.args.protocol.now c.args.cube.now c.as_slice-list.result.now c.requires.expandable are

pub returns-clause-come : goal.returns-clause-come
returns-clause-come c e =
    let are : ArePieces c.args.protocol.now c.args.cube.now c.as_slice-list.result.now = subst (λ (ys : List Piece). ArePieces c.args.protocol.now c.args.cube.now ys) (sym c.as_slice-list.ensures) c.in_ok-list.ensures.value in
    come_skip (IsOwed c.args.protocol.now c.args.cubes.now) c.args.lines.now (Key.Piece c.args.k (length c.as_slice-list.result.now)) (Key.Piece (c.args.k + 1) 0) c.unnamed_in.new.cursor (c.unnamed_in.ensures.come (cc))
    (before_piece c.args.k (length c.as_slice-list.result.now) (c.args.k + 1) 0 (inl (omega arith)))
    (pieces_end c.args.protocol.now c.args.cubes.now c.args.k (length c.as_slice-list.result.now) c.args.cube.now c.as_slice-list.result.now c.requires.its are (omega arith))

pub returns-clause-first : goal.returns-clause-first
returns-clause-first c =
    let are : ArePieces c.args.protocol.now c.args.cube.now c.as_slice-list.result.now = subst (λ (ys : List Piece). ArePieces c.args.protocol.now c.args.cube.now ys) (sym c.as_slice-list.ensures) c.in_ok-list.ensures.value in
    match_same c.unnamed_in.result (NamedIn c.args.protocol.now c.args.cubes.now c.args.lines.now c.args.k c.as_slice-list.result.now) (PieceNamed c.args.protocol.now c.args.cubes.now c.args.lines.now c.args.k)
    (named_piece c.args.protocol.now c.args.cubes.now c.args.k c.args.cube.now c.as_slice-list.result.now c.requires.its are c.args.lines.now)
    (piece_named c.args.protocol.now c.args.cubes.now c.args.k c.args.cube.now c.as_slice-list.result.now c.requires.its are c.args.lines.now) c.unnamed_in.ensures.first
