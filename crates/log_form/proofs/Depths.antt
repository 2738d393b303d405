-- Each node has one depth, at most its number; its cube fits, is met by some state, and has bounds by its depth.
use Rattle.std.proofs.Common.{◌≡◌, ℕ, zero, suc, ◌<◌, ◌≤◌, List, [], ◌∷◌, length, refl, ap, subst, arith}
use Rattle.std.specs.Prelude.{Some, IsTrue, Contains, slice_get, nat_le}
use Rattle.std.proofs.lemmas.List.Elements.{All-contains}
use Rattle.cub_base.proofs.Bools.{and_left, le_is}
use Rattle.cub_proto.specs.declared.protocol.Goal.{Goal}
use Rattle.cub_proto.specs.declared.protocol.Protocol.{Protocol}
use Rattle.cub_proto.specs.StateOf.{signature_of}
use Rattle.cub_proto.specs.Fits.{greatest_bound, goal_fits, conjunction_fits}
use Rattle.cub_cube.specs.declared.cube.Cube.{Cube}
use Rattle.cub_cube.specs.Meaning.{IsConsistent}
use Rattle.cub_cube.proofs.Form.{fold_fits, form_is_normal}
use Rattle.cub_cube.proofs.Bounds.{fold_bounded}
use Rattle.log_form.specs.declared.node.Origin.{Origin}
use Rattle.log_form.specs.declared.node.Node.{Node}
use Rattle.cub_cube.specs.Goals.{goal_cube}
use Rattle.log_form.specs.Pieces.{PieceRelation, IsFit, ArePossible, StayFit, widest, widest_expanded, greatest_expanded}
use Rattle.log_form.specs.Forms.{IsForm}
use Rattle.log_form.specs.Log.{LogValue, node_at}
use Rattle.log_form.specs.Origins.{IsOfGoal, IsOfPiece, ComesFrom}
use Rattle.log_form.specs.Depth.{HasDepth, bound_at}
use Rattle.log_form.specs.Depth.HasDepth.{at_root, at_piece}
use Rattle.cub_cube.proofs.Covering.{covering_meets}
use Rattle.log_form.proofs.Covered.{form_covers, itself}
use Rattle.log_form.proofs.Rooted.{goal_literals, goal_bounds}
use Rattle.log_form.proofs.FormFits.{form_fit, fit_more}
use Rattle.log_form.proofs.Weave.{IsWoven}

get_contains : {X : Type 0} (xs : List X) (i : ℕ) (x : X) → slice_get xs i ≡ Some x → Contains xs x
get_contains [] i x h = cc
get_contains (y ∷ xs) zero x h = (0, omega arith, cc)
get_contains (y ∷ xs) (suc i) x h = let (k, below, is) = get_contains xs i x h in (suc k, omega arith, is)

pub goal_fit : (p : Protocol) (g : Goal) → Contains p.goals g → IsFit p widest (bound_at 0) (goal_cube p g)
goal_fit p g inside = record {
  narrow = narrow;
  fits = fold_fits (signature_of p) g.width [] g.lits refl (goal_literals p g inside);
  normal = form_is_normal (signature_of p) g.width g.lits (goal_literals p g inside);
  bounded = fold_bounded (signature_of p) greatest_bound [] g.lits refl (goal_bounds p g inside);
}
  where
    narrow : g.width ≤ widest
    narrow =
        let fits = All-contains (λ h. IsTrue (goal_fits (signature_of p) h)) p.goals g p.goals_fit inside in
        let few : g.width ≤ 4 = le_is g.width 4 (and_left (nat_le g.width 4) (conjunction_fits (signature_of p) g.width g.lits) fits) in
        omega arith

-- a form of a cube that some state meets
form_possible : (p : Protocol) (piece : Cube) (places : List ℕ) (c : Cube) → IsForm p piece places c → IsConsistent p piece.width piece.lits → IsConsistent p c.width c.lits
form_possible p piece places c form (s, state, meets) =
    let (q, covers) = form_covers p piece places c c form (itself p c) in (s, state, covering_meets p c piece q covers s state meets)

-- what is said of a node
pub record IsSound (p : Protocol) (nodes : List Node) (i : ℕ) : Type 0 where
  pub depth : ℕ
  pub has : HasDepth nodes i depth
  pub low : depth ≤ i
  pub fit : IsFit p widest (bound_at depth) (node_at nodes i).cube
  pub possible : IsConsistent p (node_at nodes i).cube.width (node_at nodes i).cube.lits

module _ (P : PieceRelation) (possible : ArePossible P) (stay : StayFit P) (log : LogValue) (woven : IsWoven P log) where
  from_goal : (i goal : ℕ) → (node_at log.nodes i).origin ≡ Origin.Root goal → IsOfGoal log.protocol goal (node_at log.nodes i) → IsSound log.protocol log.nodes i
  from_goal i goal is of =
      let inside = get_contains log.protocol.goals goal of.goal of.is_there in
      record {
        depth = 0;
        has = at_root i goal is;
        low = omega arith;
        fit = form_fit log.protocol widest (bound_at 0) (goal_cube log.protocol of.goal) (node_at log.nodes i).places (node_at log.nodes i).cube of.form (goal_fit log.protocol of.goal inside);
        possible = form_possible log.protocol (goal_cube log.protocol of.goal) (node_at log.nodes i).places (node_at log.nodes i).cube of.form of.possible;
      }

  narrower : (limit : ℕ) (c : Cube) → c.width ≤ widest_expanded → IsFit log.protocol widest limit c → IsFit log.protocol widest_expanded limit c
  narrower limit c narrow fit = record { narrow = narrow; fits = fit.fits; normal = fit.normal; bounded = fit.bounded }

  from_piece : (i from piece : ℕ) → (node_at log.nodes i).origin ≡ Origin.Piece from piece → IsOfPiece P log i from piece (node_at log.nodes i)
      → IsSound log.protocol log.nodes from → IsSound log.protocol log.nodes i
  from_piece i from piece is of sound =
      let inside = get_contains of.cubes piece of.cube of.is_there in
      let narrow = of.narrow in
      let most = log.budget.narrow in
      let low = sound.low in
      let earlier = of.earlier in
      let fit = stay log.protocol (bound_at sound.depth) (node_at log.nodes from).cube of.cubes of.cube (omega arith) (narrower (bound_at sound.depth) (node_at log.nodes from).cube (omega arith) sound.fit) of.its inside in
      record {
        depth = suc sound.depth;
        has = at_piece i from piece sound.depth is sound.has;
        low = omega arith;
        fit = form_fit log.protocol widest (bound_at (suc sound.depth)) of.cube (node_at log.nodes i).places (node_at log.nodes i).cube of.form
            (subst (λ n. IsFit log.protocol widest n of.cube) (omega arith) fit);
        possible = form_possible log.protocol of.cube (node_at log.nodes i).places (node_at log.nodes i).cube of.form (possible log.protocol (node_at log.nodes from).cube of.cubes of.cube of.its inside);
      }

  all_sound : (fuel i : ℕ) → i < fuel → i < length log.nodes → IsSound log.protocol log.nodes i
  all_sound zero i below inside = absurd (omega arith)
  all_sound (suc fuel) i below inside = by (node_at log.nodes i).origin refl (woven.origins i inside) (λ j. all_sound fuel j)
    where
      by : (origin : Origin) → (node_at log.nodes i).origin ≡ origin → ComesFrom P log i (node_at log.nodes i) origin
          → ((j : ℕ) → j < fuel → j < length log.nodes → IsSound log.protocol log.nodes j) → IsSound log.protocol log.nodes i
      by (Origin.Root goal) is of next = from_goal i goal is of
      by (Origin.Piece from piece) is of next = let earlier = of.earlier in from_piece i from piece is of (next from (omega arith) (omega arith))

  pub sound_at : (i : ℕ) → i < length log.nodes → IsSound log.protocol log.nodes i
  sound_at i inside = all_sound (suc i) i (omega arith) inside

  -- the bounds at any depth of a log are below the limit of what may be expanded
  pub askable_at : (i : ℕ) → i < length log.nodes → IsFit log.protocol widest greatest_expanded (node_at log.nodes i).cube
  askable_at i inside =
      let sound = sound_at i inside in
      let low = sound.low in
      let few = woven.few in
      let most = log.budget.few_cubes in
      fit_more log.protocol widest (bound_at sound.depth) greatest_expanded (node_at log.nodes i).cube (omega arith) sound.fit

-- a node has one depth
pub one_depth : (nodes : List Node) (i d e : ℕ) → HasDepth nodes i d → HasDepth nodes i e → d ≡ e
one_depth nodes i _ _ (at_root _ goal is) (at_root _ other also) = refl
one_depth nodes i _ _ (at_root _ goal is) (at_piece _ from piece e also below) = cc
one_depth nodes i _ _ (at_piece _ from piece d is below) (at_root _ goal also) = cc
one_depth nodes i _ _ (at_piece _ from piece d is below) (at_piece _ other number e also down) =
    let same : from ≡ other = cc in ap suc (one_depth nodes other d e (subst (λ j. HasDepth nodes j d) same below) down)
