-- What a commit adds is chosen where the picks are.
use Rattle.std.proofs.Common.{◌≡◌, ◌⊎◌, ℕ, suc, ◌+◌, ◌-◌, ◌<◌, ◌≤◌, List, [], ◌∷◌, map, length, get_or, drop, refl, sym, ap, ◌∙◌, subst, arith, inl, inr, zero-add}
use Rattle.std.specs.Prelude.{Contains, Option, Some, None, All, slice_get}
use Rattle.std.proofs.lemmas.Bool.{cases_lt}
use Rattle.std.proofs.lemmas.List.{get_or-map, length-map}
use Rattle.std.proofs.lemmas.List.Elements.{All-cons}
use Rattle.cub_proto.specs.declared.protocol.Protocol.{Protocol}
use Rattle.cub_cube.specs.declared.cube.Cube.{Cube}
use Rattle.cub_cube.specs.Goals.{goal_cube}
use Rattle.log_form.specs.declared.node.Origin.{Origin}
use Rattle.log_form.specs.declared.node.Node.{Node}
use Rattle.log_form.specs.declared.event.Added.{Added}
use Rattle.log_form.specs.declared.event.LogEvent.{LogEvent}
use Rattle.log_form.specs.declared.numbered.Numbered.{Numbered}
use Rattle.log_form.specs.Pieces.{PieceRelation}
use Rattle.log_form.specs.Log.{LogValue, node_at, cubes_of, origin_of, new_node}
use Rattle.log_form.specs.Stale.{KeepsUncovered}
use Rattle.log_form.specs.Origins.{ComesFrom}
use Rattle.log_form.specs.Legal.{Treats, Fills, Grows}
use Rattle.log_form.proofs.Growth.{no_added, old_node, added_node, same_cube, same_origin, same_places, old_cube}
use Rattle.log_form.proofs.Rooted.{number_at, root_is}
use Rattle.log_form.proofs.Weave.{IsWoven}
use Rattle.log_steps.specs.declared.judgement.Pick.{Pick}
use Rattle.log_steps.specs.Judged.{added_of}
use Rattle.log_steps.specs.Commits.{no_pick, AreCommitted}
use Rattle.log_steps.specs.Chosen.{FormRelation, IsChosen}
use Rattle.cube_core.specs.Chosen.{IsChosenFrom, AreChosen}

-- what is kept is of the picks
pub kept_all : (P : Added → Type 0) (p : Protocol) (cubes : List Cube) (picks kept : List Added) → All P picks → KeepsUncovered p cubes picks kept → All P kept
kept_all P p cubes [] kept all h = subst (All P) (sym h) all
kept_all P p cubes (a ∷ picks) kept all (inl (covered, h)) = kept_all P p cubes picks kept (λ k d below. all (suc k) d (omega arith)) h
kept_all P p cubes (a ∷ picks) kept all (inr (free, (rest, is, h))) =
    subst (All P) (sym is) (All-cons P a rest (all 0 a (omega arith)) (kept_all P p cubes picks rest (λ k d below. all (suc k) d (omega arith)) h))

-- a chosen form of what is treated
pub chosen_new : (C : FormRelation) (P : PieceRelation) (log : LogValue) (node : Option ℕ) (pieces : List Numbered) (a : Added) → Treats P log node pieces → IsChosen C log.protocol pieces a
    → IsChosenFrom C P log (new_node node a) (origin_of node a.piece)
chosen_new C P log None pieces a (first, are) is =
    let root = root_is log.protocol pieces is.piece are is.inside in
    (root.goal, subst (λ n. slice_get log.protocol.goals n ≡ Some root.goal) (sym is.numbered) root.is_there, subst (λ d. C log.protocol d a.places a.cube) root.is is.chosen)
chosen_new C P log (Some number) pieces a treats is =
    let (k, at, found) = number_at 0 treats.cubes is.piece (subst (λ xs. Contains xs is.piece) treats.is is.inside) in
    let same : a.piece ≡ k = is.numbered ∙ (at ∙ zero-add k) in
    (treats.cubes, treats.its, (is.piece.cube, subst (λ n. slice_get treats.cubes n ≡ Some is.piece.cube) (sym same) found, is.chosen))

abbrev from_of : Origin → ℕ
from_of (Origin.Root goal) = 0
from_of (Origin.Piece from piece) = from

module _ (C : FormRelation) (P : PieceRelation) (log : LogValue) (after : LogValue) (protocol : after.protocol ≡ log.protocol) where
  -- the same cube and places, of an origin whose cube stays
  moved : (origin : Origin) (old new : Node) → new.cube ≡ old.cube → new.places ≡ old.places
      → ((from piece : ℕ) → origin ≡ Origin.Piece from piece → (node_at after.nodes from).cube ≡ (node_at log.nodes from).cube)
      → IsChosenFrom C P log old origin → IsChosenFrom C P after new origin
  moved (Origin.Root goal) old new cube places stays (g, is, chosen) = (
    g,
    subst (λ p. slice_get p.goals goal ≡ Some g) (sym protocol) is,
    subst (λ p. C p (goal_cube p g) new.places new.cube) (sym protocol)
        (subst (λ d. C log.protocol (goal_cube log.protocol g) new.places d) (sym cube) (subst (λ r. C log.protocol (goal_cube log.protocol g) r old.cube) (sym places) chosen)),
  )
  moved (Origin.Piece from piece) old new cube places stays (cubes, its, (x, is, chosen)) = (
    cubes,
    subst (λ d. P after.protocol d cubes) (sym (stays from piece refl)) (subst (λ p. P p (node_at log.nodes from).cube cubes) (sym protocol) its),
    (x, is, subst (λ p. C p x new.places new.cube) (sym protocol) (subst (λ d. C log.protocol x new.places d) (sym cube) (subst (λ r. C log.protocol x r old.cube) (sym places) chosen))),
  )

  -- an origin is earlier
  earlier : (number : ℕ) (n : Node) (origin : Origin) (from piece : ℕ) → ComesFrom P log number n origin → origin ≡ Origin.Piece from piece → from < number
  earlier number n (Origin.Root goal) from piece of is = cc
  earlier number n (Origin.Piece f q) from piece of is = let low = of.earlier in let same : f ≡ from = piece_from is in omega arith
    where
      piece_from : Origin.Piece f q ≡ Origin.Piece from piece → f ≡ from
      piece_from e = ap from_of e

  -- the nodes stay as they were
  pub chosen_same : after.nodes ≡ log.nodes → AreChosen C P log → AreChosen C P after
  chosen_same same chosen i below =
      subst (λ (n : Node). IsChosenFrom C P after n n.origin) (ap (λ ns. node_at ns i) (sym same))
      (moved (node_at log.nodes i).origin (node_at log.nodes i) (node_at log.nodes i) refl refl (λ from piece is. ap (λ ns. (node_at ns from).cube) same) (chosen i (subst (λ ns. i < length ns) same below)))

  -- an event adds
  module _ (woven : IsWoven P log) (event : LogEvent) (kept : List Added) (grows : Grows log event kept after)
      (new : (k : ℕ) → k < length kept → IsChosenFrom C P log (new_node event.node (get_or kept k no_added)) (origin_of event.node (get_or kept k no_added).piece)) where
    was_old : (i : ℕ) → i < length after.nodes → i < length log.nodes → AreChosen C P log → IsChosenFrom C P after (node_at after.nodes i) (node_at after.nodes i).origin
    was_old i below old chosen =
        let at = old_node log event kept i old in
        let origin : (node_at after.nodes i).origin ≡ (node_at log.nodes i).origin = same_origin log event kept after grows i below ∙ ap (λ (n : Node). n.origin) at in
        let places : (node_at after.nodes i).places ≡ (node_at log.nodes i).places = same_places log event kept after grows i below ∙ ap (λ (n : Node). n.places) at in
        subst (IsChosenFrom C P after (node_at after.nodes i)) (sym origin)
        (moved (node_at log.nodes i).origin (node_at log.nodes i) (node_at after.nodes i) (old_cube log event kept after grows i old) places
        (λ from piece is. let low = earlier i (node_at log.nodes i) (node_at log.nodes i).origin from piece (woven.origins i old) is in old_cube log event kept after grows from (omega arith))
        (chosen i old))

    is_new : (i k : ℕ) → i ≡ length log.nodes + k → k < length kept → i < length after.nodes → ((from : ℕ) → event.node ≡ Some from → from < length log.nodes)
        → IsChosenFrom C P after (node_at after.nodes i) (node_at after.nodes i).origin
    is_new i k is inside below known =
        let a = get_or kept k no_added in
        let at = added_node log event kept i k is inside in
        let origin : (node_at after.nodes i).origin ≡ origin_of event.node a.piece = same_origin log event kept after grows i below ∙ ap (λ (n : Node). n.origin) at in
        let places : (node_at after.nodes i).places ≡ a.places = same_places log event kept after grows i below ∙ ap (λ (n : Node). n.places) at in
        let cube : (node_at after.nodes i).cube ≡ a.cube = same_cube log event kept after grows i below ∙ ap (λ (n : Node). n.cube) at in
        subst (IsChosenFrom C P after (node_at after.nodes i)) (sym origin)
        (moved (origin_of event.node a.piece) (new_node event.node a) (node_at after.nodes i) cube places (by event.node known a.piece) (new k inside))
      where
        by : (node : Option ℕ) → ((from : ℕ) → node ≡ Some from → from < length log.nodes) → (number from piece : ℕ) → origin_of node number ≡ Origin.Piece from piece
            → (node_at after.nodes from).cube ≡ (node_at log.nodes from).cube
        by None known number from piece e = cc
        by (Some f) known number from piece e = old_cube log event kept after grows from (subst (λ n. n < length log.nodes) (ap from_of e) (known f refl))

    pub chosen_grown : ((from : ℕ) → event.node ≡ Some from → from < length log.nodes) → AreChosen C P log → AreChosen C P after
    chosen_grown known chosen i below = one (cases_lt i (length log.nodes))
      where
        one : (i < length log.nodes) ⊎ (length log.nodes ≤ i) → IsChosenFrom C P after (node_at after.nodes i) (node_at after.nodes i).origin
        one (inl old) = was_old i below old chosen
        one (inr past) = let count = grows.count in is_new i (i - length log.nodes) (omega arith) (omega arith) below known

abbrev number_or : Option ℕ → ℕ
number_or None = 0
number_or (Some n) = n

known_of : (P : PieceRelation) (log : LogValue) (node : Option ℕ) (pieces : List Numbered) → Treats P log node pieces → (from : ℕ) → node ≡ Some from → from < length log.nodes
known_of P log None pieces treats from is = cc
known_of P log (Some number) pieces treats from is = let inside = treats.inside in subst (λ n. n < length log.nodes) (number_from is) inside
  where
    number_from : Some number ≡ Some from → number ≡ from
    number_from e = ap number_or e

-- picks that are chosen forms of what is treated, committed
pub chosen_commit : (C : FormRelation) (P : PieceRelation) (log : LogValue) (node : Option ℕ) (pieces : List Numbered) (seen : ℕ) (picks : List Pick) (links : ℕ) (after : LogValue) → IsWoven P log → Treats P log node pieces
    → All (λ k. IsChosen C log.protocol pieces (added_of k)) picks → AreCommitted log seen node picks links after → AreChosen C P log → AreChosen C P after
chosen_commit C P log of pieces seen picks links after woven treats are committed chosen = by committed.is.effect
  where
    all : All (IsChosen C log.protocol pieces) (map added_of picks)
    all k d below = subst (IsChosen C log.protocol pieces) (sym (get_or-map added_of picks k no_pick d (omega (arith, length-map picks added_of, below)))) (are k no_pick (omega (arith, length-map picks added_of, below)))

    kept_chosen : All (IsChosen C log.protocol pieces) committed.kept
    kept_chosen = kept_all (IsChosen C log.protocol pieces) log.protocol (drop seen (cubes_of log.nodes)) (map added_of picks) committed.kept all committed.keeps

    new : (k : ℕ) → k < length committed.kept → IsChosenFrom C P log (new_node committed.is.event.node (get_or committed.kept k no_added)) (origin_of committed.is.event.node (get_or committed.kept k no_added).piece)
    new k below =
        chosen_new C P log committed.is.event.node pieces (get_or committed.kept k no_added) (subst (λ n. Treats P log n pieces) (sym committed.is.its) treats) (kept_chosen k no_added below)

    by : Fills log committed.is.event committed.kept after ⊎ Grows log committed.is.event committed.kept after → AreChosen C P after
    by (inl fills) = chosen_same C P log after committed.is.protocol fills.nodes chosen
    by (inr grows) = chosen_grown C P log after committed.is.protocol woven committed.is.event committed.kept grows new
        (λ from is. known_of P log of pieces treats from (sym committed.is.its ∙ is)) chosen
