-- What the choices give for a cube: a piece of each selection of each transition.
use Rattle.std.proofs.Common.{◌≡◌, ℕ, ◌+◌, Some, sym, ap, ◌∙◌, subst, arith}
use Rattle.std.specs.Prelude.{slice_get}
use Rattle.cub_proto.specs.declared.transition.Transition.{Transition}
use Rattle.cub_proto.specs.declared.protocol.Protocol.{Protocol}
use Rattle.cub_proto.specs.StateOf.{signature_of}
use Rattle.cub_cube.specs.declared.cube.Cube.{Cube}
use Rattle.cub_cube.specs.Mentions.{terms_in}
use Rattle.cub_base.proofs.Members.{Has, has_map, map_has}
use Rattle.piece_choices.specs.declared.piece.Piece.{Piece}
use Rattle.piece_choices.specs.Selections.{Selection, selections}
use Rattle.piece_choices.specs.Conjunction.{piece_by}
use Rattle.piece_choices.specs.Pieces.{candidates_by, candidates}
use Rattle.piece_choices.proofs.ListLemmas.{map_from_has, has_map_from}
use Rattle.piece_choices.proofs.SelectionLemmas.{IsSelection, selection_is, is_selection}

pub record IsCandidate (p : Protocol) (c : Cube) (x : Piece) : Type 0 where
  pub number : ℕ
  pub transition : Transition
  pub at : slice_get p.transitions number ≡ Some transition
  pub selected : Selection
  pub is : IsSelection (signature_of p) transition c.width (terms_in c.lits) selected
  pub same : piece_by (signature_of p) number transition c.lits selected ≡ x

pub candidate_is : (p : Protocol) (c : Cube) (x : Piece) → Has (candidates p c) x → IsCandidate p c x
candidate_is p c x h =
    let found = map_from_has (candidates_by p c) 0 p.transitions x h in
    let here = map_has (piece_by (signature_of p) (0 + found.0) found.1 c.lits) (selections (signature_of p) found.1 c.width (terms_in c.lits)) x found.3 in
    let zero_plus : 0 + found.0 ≡ found.0 = omega arith in
    record {
      number = found.0;
      transition = found.1;
      at = found.2;
      selected = here.0;
      is = selection_is (signature_of p) found.1 c.width (terms_in c.lits) here.0 here.1;
      same = ap (λ n. piece_by (signature_of p) n found.1 c.lits here.0) (sym zero_plus) ∙ here.2;
    }

pub is_candidate : (p : Protocol) (c : Cube) (number : ℕ) (t : Transition) (x : Selection) → slice_get p.transitions number ≡ Some t → IsSelection (signature_of p) t c.width (terms_in c.lits) x
    → Has (candidates p c) (piece_by (signature_of p) number t c.lits x)
is_candidate p c number t x at is =
    let zero_plus : 0 + number ≡ number = omega arith in
    has_map_from (candidates_by p c) 0 p.transitions number t (piece_by (signature_of p) number t c.lits x) at
    (subst (λ n. Has (candidates_by p c n t) (piece_by (signature_of p) number t c.lits x)) (sym zero_plus)
    (has_map (piece_by (signature_of p) number t c.lits) (selections (signature_of p) t c.width (terms_in c.lits)) x (is_selection (signature_of p) t c.width (terms_in c.lits) x is)))
