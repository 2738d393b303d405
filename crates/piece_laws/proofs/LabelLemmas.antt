-- The event that a label names leads from processes that satisfy the piece into the cube.
use Rattle.std.proofs.Common.{◌≡◌, ℕ, ◌<◌, ◌≤◌, List, length, take, sym, ap, ◌∙◌, subst}
use Rattle.std.specs.Prelude.{IsTrue, Contains, slice_index}
use Rattle.std.specs.List.{list_all}
use Rattle.std.proofs.lemmas.List.{ext_get_or, length-take-le, get_or-take}
use Rattle.std.proofs.lemmas.List.FromFn.{length-range_with_len}
use Rattle.cub_proto.specs.declared.protocol.Protocol.{Protocol}
use Rattle.cub_proto.specs.Configuration.{Configuration}
use Rattle.cub_proto.specs.StateOf.{IsStateOf, signature_of}
use Rattle.cub_proto.specs.Fits.{literal_fits}
use Rattle.cub_proto.specs.Legal.{AreLegal, after_all}
use Rattle.cub_proto.specs.Meets.{Satisfies}
use Rattle.cub_cube.specs.declared.cube.Cube.{Cube}
use Rattle.cub_cube.specs.Rename.{along}
use Rattle.cub_base.proofs.Members.{contains_Has}
use Rattle.cub_cube.proofs.KeptLemmas.{kept_from}
use Rattle.cub_cube.proofs.Placing.{identity, identity_at}
use Rattle.cub_cube.proofs.Renames.{at_along, length-along}
use Rattle.piece_choices.specs.declared.piece.Piece.{Piece}
use Rattle.piece_choices.specs.Pieces.{candidates, IsPossible, ArePieces}
use Rattle.piece_laws.specs.Event.{events_by}
use Rattle.piece_choices.specs.Conjunction.{label_of}
use Rattle.piece_choices.proofs.Fitting.{cube_narrow, its_transition}
use Rattle.piece_choices.proofs.Candidates.{candidate_is}
use Rattle.piece_laws.proofs.Predecessors.{leads}

-- the first places of a list
along_first : (width : ℕ) (places : List ℕ) → width ≤ length places → along (identity width) places ≡ take width places
along_first width places h =
    ext_get_or 0 (along (identity width) places) (take width places) (sizes ∙ sym (length-take-le width places h))
    (λ i below.
    let inside : i < width = subst (λ n. i < n) sizes below in
    at_along (identity width) places i (subst (λ n. i < n) (sym (length-range_with_len 0 width)) inside) ∙ ap (slice_index places) (identity_at width i inside)
    ∙ sym (get_or-take width places i 0 inside))
  where
    sizes : length (along (identity width) places) ≡ width
    sizes = length-along (identity width) places ∙ length-range_with_len 0 width

pub record LeadsThere (p : Protocol) (c : Cube) (x : Piece) (s : Configuration) (places : List ℕ) : Type 0 where
  pub legal : AreLegal p s (events_by s x.label places)
  pub meets : Satisfies (after_all p s (events_by s x.label places)) (take c.width places) c.width c.lits

pub label_leads : (p : Protocol) (c : Cube) (pieces : List Piece) (x : Piece) (s : Configuration) (places : List ℕ) → IsTrue (list_all (literal_fits (signature_of p) c.width) c.lits) → ArePieces p c pieces → Contains pieces x
    → IsStateOf p s → Satisfies s places x.cube.width x.cube.lits → LeadsThere p c x s places
label_leads p c pieces x s places fits are at state sat =
    let inside = kept_from (IsPossible p) (candidates p c) pieces x are at in
    let is = candidate_is p c x (contains_Has (candidates p c) x inside.0) in
    let own = subst (λ y. Satisfies s places y.cube.width y.cube.lits) (sym is.same) sat in
    let there = leads p c fits is.number is.transition is.at is.selected is.is s places state own in
    let wide : c.width ≤ length places = subst (λ n. c.width ≤ n) (sym own.one_each) (cube_narrow p is.transition (its_transition p is.number is.transition is.at) c.width c.lits fits is.selected is.is) in
    record {
      legal = subst (λ y. AreLegal p s (events_by s y.label places)) is.same there.legal;
      meets = subst (λ y. Satisfies (after_all p s (events_by s y.label places)) (take c.width places) c.width c.lits) is.same
          (subst (λ qs. Satisfies (after_all p s (events_by s (label_of is.number is.selected) places)) qs c.width c.lits) (along_first c.width places wide) there.meets);
    }
