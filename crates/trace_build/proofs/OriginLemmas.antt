-- The origins of the bad node of a legal log are a chain.
use Rattle.std.proofs.Common.{◌≡◌, ℕ, zero, suc, ◌+◌, ◌<◌, ◌≤◌, List, [], ◌∷◌, ◌++◌, length, Some, refl, sym, ap, ◌∙◌, subst, arith, slice_get, append_assoc}
use Rattle.cub_proto.specs.declared.protocol.Protocol.{Protocol}
use Rattle.cub_cube.specs.declared.cube.Cube.{Cube}
use Rattle.cub_cube.specs.Starts.{IsStartCube}
use Rattle.piece_choices.specs.declared.piece.Piece.{Piece}
use Rattle.log_form.specs.declared.node.Origin.{Origin}
use Rattle.log_form.specs.declared.node.Node.{Node}
use Rattle.log_form.specs.Forms.{IsForm}
use Rattle.log_form.specs.Log.{LogValue, node_at}
use Rattle.log_form.specs.Origins.{IsOfPiece, ComesFrom}
use Rattle.log_form.proofs.Weave.{IsWoven, legal_woven}
use Rattle.predecessors.specs.Predecessors.{cubes_of, ArePieceCubes}
use Rattle.trace_laws.specs.declared.chain.Link.{Link}
use Rattle.trace_laws.specs.Chain.{IsPieceOf, NamesPiece, NamesGoal, AreLinked, MeetsFirst, IsChain}
use Rattle.trace_build.specs.Origins.{link_of, OriginsFrom, AreOrigins, LeadsBack, IsBadNode}

-- the piece of a cube in the list of cubes
piece_at : (pieces : List Piece) (number : ℕ) (cube : Cube) → slice_get (cubes_of pieces) number ≡ Some cube → (x : Piece) × (slice_get pieces number ≡ Some x) × (x.cube ≡ cube)
piece_at [] number cube h = cc
piece_at (x ∷ xs) zero cube h = (x, refl, let same : x.cube ≡ cube = cc in same)
piece_at (x ∷ xs) (suc number) cube h = piece_at xs number cube h

-- where the nodes are linked
record IsLinkedFrom (p : Protocol) (number : ℕ) (chain : List Link) : Type 0 where
  linked : AreLinked p chain
  short : length chain ≤ number + 1

module _ (log : LogValue) (woven : IsWoven ArePieceCubes log) where
  goal_link : (number : ℕ) (node : Node) (origin : Origin) → node.origin ≡ origin → (goal : ℕ) → origin ≡ Origin.Root goal → ComesFrom ArePieceCubes log number node origin → NamesGoal log.protocol (link_of node) origin
  goal_link number node (Origin.Root other) is goal root of = record { goal = of.goal; is_there = of.is_there; form = of.form }
  goal_link number node (Origin.Piece from piece) is goal root of = cc

  piece_link : (number : ℕ) (node : Node) (from piece : ℕ) → IsOfPiece ArePieceCubes log number from piece node → IsPieceOf log.protocol piece (link_of node) (node_at log.nodes from).cube
  piece_link number node from piece of =
      let at = piece_at of.its.0 piece of.cube (ap (λ xs. slice_get xs piece) (sym of.its.2) ∙ of.is_there) in
      let narrow = of.narrow in
      let most = log.budget.narrow in
      record {
        narrow = omega arith;
        pieces = of.its.0;
        its = of.its.1;
        piece = at.0;
        is_there = at.1;
        form = subst (λ (c : Cube). IsForm log.protocol c node.places node.cube) (sym at.2) of.form;
      }

  linked_from : (number : ℕ) (chain : List Link) → number < length log.nodes → AreOrigins log.nodes number chain → IsLinkedFrom log.protocol number chain
  linked_from number [] inside h = absurd h
  linked_from number (link ∷ []) inside h = by (node_at log.nodes number).origin refl (woven.origins number inside) h.1
    where
      by : (o : Origin) → (node_at log.nodes number).origin ≡ o → ComesFrom ArePieceCubes log number (node_at log.nodes number) o → OriginsFrom log.nodes o [] → IsLinkedFrom log.protocol number (link ∷ [])
      by (Origin.Root goal) is of rest = record {
        linked = subst (λ (l : Link). NamesGoal log.protocol l l.origin) (sym h.0)
            (subst (NamesGoal log.protocol (link_of (node_at log.nodes number))) (sym is) (goal_link number (node_at log.nodes number) (Origin.Root goal) is goal refl of));
        short = omega arith;
      }
      by (Origin.Piece from piece) is of rest = absurd rest
  linked_from number (link ∷ next ∷ chain) inside h = by (node_at log.nodes number).origin refl (woven.origins number inside) h.1 (λ from below. linked_from from (next ∷ chain) below)
    where
      by : (o : Origin) → (node_at log.nodes number).origin ≡ o → ComesFrom ArePieceCubes log number (node_at log.nodes number) o → OriginsFrom log.nodes o (next ∷ chain)
          → ((from : ℕ) → from < length log.nodes → AreOrigins log.nodes from (next ∷ chain) → IsLinkedFrom log.protocol from (next ∷ chain)) → IsLinkedFrom log.protocol number (link ∷ next ∷ chain)
      by (Origin.Root goal) is of rest more = absurd rest
      by (Origin.Piece from piece) is of rest more =
          let earlier = of.earlier in
          let behind = more from (omega arith) rest in
          let short = behind.short in
          let named : NamesPiece log.protocol (link_of (node_at log.nodes number)) (node_at log.nodes from).cube (Origin.Piece from piece) = piece_link number (node_at log.nodes number) from piece of in
          let its : NamesPiece log.protocol link next.cube link.origin =
          subst (λ (l : Link). NamesPiece log.protocol l next.cube l.origin) (sym h.0)
          (subst (NamesPiece log.protocol (link_of (node_at log.nodes number)) next.cube) (sym is)
          (subst (λ (l : Link). NamesPiece log.protocol (link_of (node_at log.nodes number)) l.cube (Origin.Piece from piece)) (sym rest.0) named)) in
          record { linked = (its, behind.linked); short = omega arith }

  leads_back : (number : ℕ) → number < length log.nodes → LeadsBack number (node_at log.nodes number).origin
  leads_back number inside = by (node_at log.nodes number).origin (woven.origins number inside)
    where
      by : (o : Origin) → ComesFrom ArePieceCubes log number (node_at log.nodes number) o → LeadsBack number o
      by (Origin.Root goal) of = tt
      by (Origin.Piece from piece) of = of.earlier

meets_first : (p : Protocol) (nodes : List Node) (number : ℕ) (chain : List Link) → AreOrigins nodes number chain → IsStartCube p (node_at nodes number).cube → MeetsFirst p chain
meets_first p nodes number [] h meets = absurd h
meets_first p nodes number (link ∷ chain) h meets = subst (λ (l : Link). IsStartCube p l.cube) (sym h.0) meets

pub bad_inside : (p : Protocol) (nodes : List Node) (number : ℕ) → IsBadNode p nodes number → number < length nodes
bad_inside p nodes number is = subst (λ (xs : List Node). number < length xs) is.are ((legal_woven ArePieceCubes is.log is.legal).bad number is.bad).0

pub bad_back : (p : Protocol) (nodes : List Node) (number : ℕ) → IsBadNode p nodes number → (i : ℕ) → i < length nodes → LeadsBack i (node_at nodes i).origin
bad_back p nodes number is =
    subst (λ (xs : List Node). (i : ℕ) → i < length xs → LeadsBack i (node_at xs i).origin) is.are (leads_back is.log (legal_woven ArePieceCubes is.log is.legal))

chain_in : (log : LogValue) (woven : IsWoven ArePieceCubes log) (number : ℕ) (chain : List Link) → number < length log.nodes → IsStartCube log.protocol (node_at log.nodes number).cube → AreOrigins log.nodes number chain → IsChain log.protocol chain
chain_in log woven number chain inside meets are =
    let from = linked_from log woven number chain inside are in
    let few = woven.few in
    let most = log.budget.few_cubes in
    let short = from.short in
    record {
      few = omega arith;
      linked = from.linked;
      starts = meets_first log.protocol log.nodes number chain are meets;
    }

pub bad_chain : (p : Protocol) (nodes : List Node) (number : ℕ) (chain : List Link) → IsBadNode p nodes number → AreOrigins nodes number chain → IsChain p chain
bad_chain p nodes number chain is are =
    let woven = legal_woven ArePieceCubes is.log is.legal in
    let bad = woven.bad number is.bad in
    subst (λ q. IsChain q chain) is.protocol
    (chain_in is.log woven number chain bad.0 bad.1 (subst (λ (xs : List Node). AreOrigins xs number chain) (sym is.are) are))

-- ---- the chain as it grows
pub record Grows (nodes : List Node) (number at : ℕ) (chain : List Link) : Type 0 where
  pub inside : at < length nodes
  pub along : (more : List Link) → AreOrigins nodes at more → AreOrigins nodes number (chain ++ more)

pub grows_first : (nodes : List Node) (number : ℕ) → number < length nodes → Grows nodes number number []
grows_first nodes number inside = record { inside = inside; along = λ more h. h }

any_piece : (nodes : List Node) (from piece : ℕ) (more : List Link) → AreOrigins nodes from more → OriginsFrom nodes (Origin.Piece from piece) more
any_piece nodes from piece [] h = h
any_piece nodes from piece (link ∷ chain) h = h

pub grows_next : (nodes : List Node) (number at : ℕ) (chain : List Link) → Grows nodes number at chain → (from piece : ℕ) → (node_at nodes at).origin ≡ Origin.Piece from piece → from < at
    → Grows nodes number from (chain ++ link_of (node_at nodes at) ∷ [])
grows_next nodes number at chain grows from piece is earlier =
    let inside = grows.inside in
    record {
      inside = omega arith;
      along = λ more h.
          subst (AreOrigins nodes number) (sym (append_assoc chain (link_of (node_at nodes at) ∷ []) more))
          (grows.along (link_of (node_at nodes at) ∷ more) (refl, subst (λ o. OriginsFrom nodes o more) (sym is) (any_piece nodes from piece more h)));
    }

pub grows_last : (nodes : List Node) (number at : ℕ) (chain : List Link) → Grows nodes number at chain → (goal : ℕ) → (node_at nodes at).origin ≡ Origin.Root goal → AreOrigins nodes number (chain ++ link_of (node_at nodes at) ∷ [])
grows_last nodes number at chain grows goal is = grows.along (link_of (node_at nodes at) ∷ []) (refl, subst (λ o. OriginsFrom nodes o []) (sym is) tt)

pub is_back : (number : ℕ) (o : Origin) (from piece : ℕ) → LeadsBack number o → o ≡ Origin.Piece from piece → from < number
is_back number o from piece back is = subst (LeadsBack number) is back
