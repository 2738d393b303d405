-- The cubes of a chain fit, with bounds by how far they are from its end.
use Rattle.std.proofs.Common.{◌≡◌, ℕ, zero, suc, ◌+◌, ◌≤◌, List, [], ◌∷◌, length, refl, subst, arith, inl, inr}
use Rattle.std.specs.Prelude.{Some, Contains, slice_get}
use Rattle.cub_base.proofs.Members.{Has, has_Contains, contains_Has, has_map}
use Rattle.cub_proto.specs.declared.protocol.Protocol.{Protocol}
use Rattle.cub_cube.specs.declared.cube.Cube.{Cube}
use Rattle.cub_cube.specs.Goals.{goal_cube}
use Rattle.predecessors.specs.Predecessors.{cubes_of}
use Rattle.predecessors.specs.Facts.{stay_fit}
use Rattle.log_form.specs.declared.node.Origin.{Origin}
use Rattle.log_form.specs.Pieces.{IsFit, widest, widest_expanded, greatest_expanded, step_bound}
use Rattle.log_form.specs.Depth.{bound_at}
use Rattle.log_form.proofs.FormFits.{form_fit, fit_more}
use Rattle.log_form.proofs.Depths.{goal_fit}
use Rattle.trace_laws.specs.declared.chain.Link.{Link}
use Rattle.trace_laws.specs.Chain.{NamesPiece, NamesGoal, AreLinked, IsChain}

pub get_has : {A : Type 0} (xs : List A) (i : ℕ) (x : A) → slice_get xs i ≡ Some x → Has xs x
get_has [] i x h = cc
get_has (y ∷ xs) zero x h = inl (let same : y ≡ x = cc in same)
get_has (y ∷ xs) (suc i) x h = inr (get_has xs i x h)

narrower : (p : Protocol) (limit : ℕ) (c : Cube) → c.width ≤ 8 → IsFit p widest limit c → IsFit p widest_expanded limit c
narrower p limit c narrow fit = record { narrow = narrow; fits = fit.fits; normal = fit.normal; bounded = fit.bounded }

goal_link : (p : Protocol) (link : Link) (origin : Origin) → NamesGoal p link origin → IsFit p widest (bound_at 0) link.cube
goal_link p link (Origin.Root number) of =
    form_fit p widest (bound_at 0) (goal_cube p of.goal) link.places link.cube of.form
    (goal_fit p of.goal (has_Contains p.goals of.goal (get_has p.goals number of.goal of.is_there)))
goal_link p link (Origin.Piece node number) of = absurd of

piece_link : (p : Protocol) (link : Link) (next : Cube) (d : ℕ) (origin : Origin) → NamesPiece p link next origin → IsFit p widest (bound_at d) next → IsFit p widest (bound_at (suc d)) link.cube
piece_link p link next d (Origin.Root number) of fit = absurd of
piece_link p link next d (Origin.Piece node number) of fit =
    let inside : Contains (cubes_of of.pieces) of.piece.cube =
    has_Contains (cubes_of of.pieces) of.piece.cube (has_map (λ x. x.cube) of.pieces of.piece (get_has of.pieces number of.piece of.is_there)) in
    let piece : IsFit p widest (bound_at d + step_bound) of.piece.cube =
    stay_fit p (bound_at d) next (cubes_of of.pieces) of.piece.cube (omega arith) (narrower p (bound_at d) next of.narrow fit) ((of.pieces, of.its, refl)) inside in
    form_fit p widest (bound_at (suc d)) of.piece.cube link.places link.cube of.form (subst (λ n. IsFit p widest n of.piece.cube) (omega arith) piece)

pub first_fit : (p : Protocol) (link : Link) (chain : List Link) → AreLinked p (link ∷ chain) → IsFit p widest (bound_at (length chain)) link.cube
first_fit p link [] named = goal_link p link link.origin named
first_fit p link (next ∷ chain) linked =
    subst (λ n. IsFit p widest (bound_at n) link.cube) (omega arith) (piece_link p link next.cube (length chain) link.origin linked.0 (first_fit p next chain linked.1))

pub first_may : (p : Protocol) (link : Link) (chain : List Link) → AreLinked p (link ∷ chain) → length (link ∷ chain) ≤ 65536 → IsFit p widest greatest_expanded link.cube
first_may p link chain linked few = fit_more p widest (bound_at (length chain)) greatest_expanded link.cube (omega arith) (first_fit p link chain linked)

each_fit : (p : Protocol) (chain : List Link) (link : Link) → AreLinked p chain → length chain ≤ 65536 → Has chain link → IsFit p widest greatest_expanded link.cube
each_fit p [] link linked few h = absurd linked
each_fit p (first ∷ []) link linked few (inl same) = subst (λ (x : Link). IsFit p widest greatest_expanded x.cube) same (first_may p first [] linked few)
each_fit p (first ∷ []) link linked few (inr none) = absurd none
each_fit p (first ∷ next ∷ chain) link linked few (inl same) = subst (λ (x : Link). IsFit p widest greatest_expanded x.cube) same (first_may p first (next ∷ chain) linked few)
each_fit p (first ∷ next ∷ chain) link linked few (inr later) = each_fit p (next ∷ chain) link linked.1 (omega arith) later

pub cubes_fit : (p : Protocol) (chain : List Link) (link : Link) → IsChain p chain → Contains chain link → IsFit p widest greatest_expanded link.cube
cubes_fit p chain link is at = each_fit p chain link is.linked is.few (contains_Has chain link at)
