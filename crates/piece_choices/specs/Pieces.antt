-- The pieces of a cube: the consistent ones of what all choices give, in order.
use Rattle.std.specs.Prelude.{ℕ, List, map}
use Rattle.std.specs.List.{flat_map}
use Rattle.cub_proto.specs.declared.transition.Transition.{Transition}
use Rattle.cub_proto.specs.declared.protocol.Protocol.{Protocol}
use Rattle.cub_base.specs.Numbered.{map_from}
use Rattle.cub_proto.specs.StateOf.{signature_of}
use Rattle.cub_cube.specs.declared.cube.Cube.{Cube}
use Rattle.cub_cube.specs.Mentions.{terms_in}
use Rattle.cub_cube.specs.Meaning.{IsConsistent}
use Rattle.cub_cube.specs.Kept.{Keeps}
use Rattle.piece_choices.specs.declared.piece.Piece.{Piece}
use Rattle.piece_choices.specs.Selections.{selections}
use Rattle.piece_choices.specs.Conjunction.{piece_by}

-- what the choices for one transition give, consistent or not
abbrev pub candidates_by : Protocol → Cube → ℕ → Transition → List Piece
candidates_by p c number t = map (piece_by (signature_of p) number t c.lits) (selections (signature_of p) t c.width (terms_in c.lits))

-- what all choices give, in the order of the transitions
abbrev pub candidates : Protocol → Cube → List Piece
candidates p c = flat_map (λ xs. xs) (map_from (candidates_by p c) 0 p.transitions)

-- some state of the protocol meets it
abbrev pub IsPossible : Protocol → Piece → Type 0
IsPossible p x = IsConsistent p x.cube.width x.cube.lits

-- the list is that of the pieces; a piece's number is its place in it
abbrev pub ArePieces : Protocol → Cube → List Piece → Type 0
ArePieces p c pieces = Keeps (IsPossible p) (candidates p c) pieces
