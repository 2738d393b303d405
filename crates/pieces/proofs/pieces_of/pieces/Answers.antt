use Rattle.std.proofs.Common.{◌≡◌, List, ◌++◌, sym, ap, ◌∙◌, subst}
use Rattle.piece_choices.specs.declared.piece.Piece.{Piece}
use Rattle.piece_choices.specs.Pieces.{ArePieces}
use Rattle.pieces.proofs.HandsLemmas.{listed}
use Rattle.pieces.proofs.pieces_of.pieces.Goals as goal

pub returns-clause-value : goal.returns-clause-value
returns-clause-value c =
    let handed = c.in_ok-each_piece.ensures.handed in
    let is : c.each_piece.new.receiver ≡ handed.0 = listed c.new-list.result handed.0 c.each_piece.new.receiver handed.2 ∙ ap (λ (xs : List Piece). xs ++ handed.0) c.new-list.ensures in
    subst (ArePieces c.args.protocol.now c.args.cube.now) (sym is) handed.1
