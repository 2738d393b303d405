-- What the log asks of pieces, of the pieces by choices.
use Rattle.std.proofs.Common.{◌≡◌, ◌+◌, List, sym, ap, subst, ◌∙◌, arith}
use Rattle.std.specs.Prelude.{IsTrue, Contains}
use Rattle.std.specs.List.{list_all}
use Rattle.cub_base.proofs.Members.{Has, contains_Has, has_Contains, map_has, has_map}
use Rattle.cub_proto.specs.declared.protocol.Protocol.{Protocol}
use Rattle.cub_proto.specs.StateOf.{signature_of}
use Rattle.cub_proto.specs.Fits.{literal_fits}
use Rattle.cub_cube.specs.declared.cube.Cube.{Cube}
use Rattle.cub_cube.specs.Meaning.{IsConsistent}
use Rattle.cub_cube.specs.Normal.{is_normal}
use Rattle.cub_cube.proofs.Form.{form_is_normal}
use Rattle.cub_cube.proofs.KeptLemmas.{kept_unique, kept_from, kept_has}
use Rattle.piece_choices.specs.declared.piece.Piece.{Piece}
use Rattle.piece_choices.specs.Pieces.{candidates, IsPossible}
use Rattle.piece_choices.specs.Conjunction.{conjunction}
use Rattle.piece_choices.proofs.Candidates.{candidate_is}
use Rattle.piece_choices.proofs.Fitting.{its_transition, selection_fits}
use Rattle.piece_choices.proofs.Limits.{piece_fits, piece_bounded}
use Rattle.piece_choices.proofs.Widths.{piece_wide}
use Rattle.piece_laws.specs.Test.{PassesTest}
use Rattle.log_form.specs.Pieces.{IsFit, AreOne, ArePossible, StayFit, step_bound}
use Rattle.log_form.specs.Test as log
use Rattle.predecessors.specs.Predecessors.{cubes_of, ArePieceCubes}

pub are_one : AreOne ArePieceCubes
are_one p c xs ys h k =
    let same = kept_unique (IsPossible p) (candidates p c) h.0 k.0 h.1 k.1 in
    h.2 ∙ ap cubes_of same ∙ sym k.2

-- a cube of the list is that of a piece
record IsOf (p : Protocol) (c : Cube) (cube : Cube) : Type 0 where
  piece : Piece
  candidate : Has (candidates p c) piece
  possible : IsPossible p piece
  same : piece.cube ≡ cube

cube_is_of : (p : Protocol) (c : Cube) (xs : List Cube) (cube : Cube) → ArePieceCubes p c xs → Contains xs cube → IsOf p c cube
cube_is_of p c xs cube are inside =
    let found = map_has (λ x. x.cube) are.0 cube (subst (λ list. Has list cube) are.2 (contains_Has xs cube inside)) in
    let kept = kept_from (IsPossible p) (candidates p c) are.0 found.0 are.1 (has_Contains are.0 found.0 found.1) in
    record { piece = found.0; candidate = contains_Has (candidates p c) found.0 kept.0; possible = kept.1; same = found.2 }

pub are_possible : ArePossible ArePieceCubes
are_possible p c xs x are inside =
    let of = cube_is_of p c xs x are inside in
    subst (λ y. IsConsistent p y.width y.lits) of.same of.possible

piece_normal : (p : Protocol) (c : Cube) (x : Piece) → IsTrue (list_all (literal_fits (signature_of p) c.width) c.lits) → Has (candidates p c) x → IsTrue (is_normal (signature_of p) x.cube.lits)
piece_normal p c x fits h =
    let is = candidate_is p c x h in
    subst (λ y. IsTrue (is_normal (signature_of p) y.cube.lits)) is.same
    (form_is_normal (signature_of p) is.selected.picking.width (conjunction (signature_of p) is.transition is.selected c.lits)
    (selection_fits p is.transition (its_transition p is.number is.transition is.at) c.width c.lits fits is.selected is.is))

pub stay_fit : StayFit ArePieceCubes
stay_fit p limit c xs x large fit are inside =
    let of = cube_is_of p c xs x are inside in
    let wide = piece_wide p c of.piece fit.fits of.candidate in
    subst (IsFit p 11 (limit + step_bound)) of.same (record {
      narrow = omega (arith, wide.1, fit.narrow);
      fits = piece_fits p c of.piece fit.fits of.candidate;
      normal = piece_normal p c of.piece fit.fits of.candidate;
      bounded = piece_bounded p c of.piece limit fit.fits fit.bounded large of.candidate;
    })

-- the log's test of a certificate is that of the pieces
pub passes_both : (p : Protocol) (cubes : List Cube) → log.PassesTest ArePieceCubes p cubes → PassesTest p cubes
passes_both p cubes passes = record {
  start = passes.start;
  goals = passes.goals;
  pieces = λ c at x candidate possible.
      let covered = passes.pieces c at in
      let kept = kept_has (IsPossible p) (candidates p c) covered.its.0 x covered.its.1 candidate possible in
      covered.covered x.cube (has_Contains covered.pieces x.cube (subst (λ list. Has list x.cube) (sym covered.its.2) (has_map (λ y. y.cube) covered.its.0 x (contains_Has covered.its.0 x kept))));
}
