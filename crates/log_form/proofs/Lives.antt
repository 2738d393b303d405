-- Live nodes: each node is covered by one, none covers another, and their cubes are those of the list.
use Rattle.std.proofs.Common.{◌≡◌, ◌≢◌, ◌⊎◌, ℕ, zero, suc, ◌+◌, ◌<◌, ◌≤◌, Bool, true, false, cond, List, [], ◌∷◌, length, refl, sym, ap, subst, arith, inl, inr}
use Rattle.std.specs.Prelude.{None, IsTrue, Contains}
use Rattle.std.specs.List.{filter}
use Rattle.std.proofs.lemmas.Bool.{cases_lt}
use Rattle.cub_proto.specs.declared.protocol.Protocol.{Protocol}
use Rattle.cub_cube.specs.declared.cube.Cube.{Cube}
use Rattle.cub_cube.specs.Cover.{Covers, DoesCover, CoversLeast, IsCovered}
use Rattle.log_form.specs.declared.node.Node.{Node}
use Rattle.log_form.specs.declared.node.Fate.{Fate}
use Rattle.log_form.specs.declared.node.Fate.TheVariants.{Waiting, Done, Covered}
use Rattle.log_form.specs.Pieces.{PieceRelation}
use Rattle.log_form.specs.Links.{IsFirstCover}
use Rattle.log_form.specs.Fates.{is_live, link_of}
use Rattle.log_form.specs.Log.{LogValue, node_at, cubes_of, live_cubes}
use Rattle.log_form.proofs.Covered.{itself, further, at_covered, cube_at-cubes_of, length-cubes_of}
use Rattle.log_form.proofs.Weave.{IsWoven}

-- a live node from one number on that covers the node
pub record HasLiveCover (p : Protocol) (nodes : List Node) (i : ℕ) : Type 0 where
  pub by : ℕ
  pub later : i ≤ by
  pub inside : by < length nodes
  pub live : IsTrue (is_live (node_at nodes by).fate)
  pub covers : DoesCover p (node_at nodes by).cube (node_at nodes i).cube

-- ---- the cubes of live nodes
pub has_live : (nodes : List Node) (i : ℕ) → i < length nodes → IsTrue (is_live (node_at nodes i).fate) → Contains (live_cubes nodes) (node_at nodes i).cube
has_live [] i below live = absurd (omega arith)
has_live (n ∷ nodes) zero below live =
    subst (λ b. Contains (cubes_of (cond b (n ∷ filter (λ m. is_live m.fate) nodes) (filter (λ m. is_live m.fate) nodes))) n.cube) (sym live) (0, omega arith, refl)
has_live (n ∷ nodes) (suc i) below live = by (is_live n.fate) (has_live nodes i (omega arith) live)
  where
    by : (b : Bool) → Contains (live_cubes nodes) (node_at nodes i).cube
        → Contains (cubes_of (cond b (n ∷ filter (λ m. is_live m.fate) nodes) (filter (λ m. is_live m.fate) nodes))) (node_at nodes i).cube
    by true (k, within, is) = (suc k, omega arith, is)
    by false h = h

pub record IsLiveCube (nodes : List Node) (c : Cube) : Type 0 where
  pub number : ℕ
  pub inside : number < length nodes
  pub live : IsTrue (is_live (node_at nodes number).fate)
  pub is : (node_at nodes number).cube ≡ c

pub live_has : (nodes : List Node) (c : Cube) → Contains (live_cubes nodes) c → IsLiveCube nodes c
live_has [] c (k, below, is) = absurd (omega arith)
live_has (n ∷ nodes) c h = by (is_live n.fate) refl h (live_has nodes c)
  where
    one_more : IsLiveCube nodes c → IsLiveCube (n ∷ nodes) c
    one_more l = let inside = l.inside in record { number = suc l.number; inside = omega arith; live = l.live; is = l.is }

    by : (b : Bool) → is_live n.fate ≡ b → Contains (cubes_of (cond b (n ∷ filter (λ m. is_live m.fate) nodes) (filter (λ m. is_live m.fate) nodes))) c
        → (Contains (live_cubes nodes) c → IsLiveCube nodes c) → IsLiveCube (n ∷ nodes) c
    by true is (zero, below, same) next = record { number = 0; inside = omega arith; live = is; is = same }
    by true is (suc k, below, same) next = one_more (next (k, omega arith, same))
    by false is inside next = one_more (next inside)

module _ (P : PieceRelation) (log : LogValue) (woven : IsWoven P log) where
  links_at : (i : ℕ) (fate : Fate) → i < length log.nodes → (node_at log.nodes i).fate ≡ fate
      → IsFirstCover log.protocol (cubes_of log.nodes) (i + 1) (length log.nodes) (node_at log.nodes i).cube (link_of fate)
  links_at i fate below is = subst (λ f. IsFirstCover log.protocol (cubes_of log.nodes) (i + 1) (length log.nodes) (node_at log.nodes i).cube (link_of f)) is (woven.links i below)

  cover_up : (fuel i : ℕ) → i < length log.nodes → length log.nodes ≤ i + fuel → HasLiveCover log.protocol log.nodes i
  cover_up zero i below room = absurd (omega arith)
  cover_up (suc fuel) i below room = by (node_at log.nodes i).fate refl (λ j. cover_up fuel j)
    where
      live_itself : IsTrue (is_live (node_at log.nodes i).fate) → HasLiveCover log.protocol log.nodes i
      live_itself live = record { by = i; later = omega arith; inside = below; live = live; covers = itself log.protocol (node_at log.nodes i).cube }

      by : (fate : Fate) → (node_at log.nodes i).fate ≡ fate → ((j : ℕ) → j < length log.nodes → length log.nodes ≤ j + fuel → HasLiveCover log.protocol log.nodes j)
          → HasLiveCover log.protocol log.nodes i
      by Waiting is next = live_itself (ap is_live is)
      by Done is next = live_itself (ap is_live is)
      by (Covered j places) is next =
          let (low, high, least, none) = links_at i (Covered j places) below is in
          let up = next j high (omega arith) in
          let later = up.later in
          record {
            by = up.by;
            later = omega arith;
            inside = up.inside;
            live = up.live;
            covers = further log.protocol (node_at log.nodes up.by).cube (node_at log.nodes j).cube (node_at log.nodes i).cube up.covers
                (places, subst (λ d. Covers log.protocol d (node_at log.nodes i).cube places) (cube_at-cubes_of log.nodes j) least.covers);
          }

  pub live_cover : (i : ℕ) → i < length log.nodes → HasLiveCover log.protocol log.nodes i
  live_cover i below = cover_up (length log.nodes) i below (omega arith)

  pub link_leads : (i by : ℕ) (places : List ℕ) → i < length log.nodes → (node_at log.nodes i).fate ≡ Covered by places
      → (i < by) × (by < length log.nodes) × CoversLeast log.protocol (node_at log.nodes by).cube (node_at log.nodes i).cube places
  link_leads i by places below is =
      let (low, high, least, none) = links_at i (Covered by places) below is in
      (omega arith, high, subst (λ d. CoversLeast log.protocol d (node_at log.nodes i).cube places) (cube_at-cubes_of log.nodes by) least)

  live_link : (fate : Fate) → IsTrue (is_live fate) → link_of fate ≡ None
  live_link Waiting h = refl
  live_link Done h = refl
  live_link (Covered by places) h = cc

  -- no node covers a live one, but itself
  pub live_apart : (i j : ℕ) → i < length log.nodes → j < length log.nodes → i ≢ j → IsTrue (is_live (node_at log.nodes i).fate)
      → DoesCover log.protocol (node_at log.nodes j).cube (node_at log.nodes i).cube → ⊥
  live_apart i j below within other live covers = by (cases_lt j i)
    where
      by : (j < i) ⊎ (i ≤ j) → ⊥
      by (inl earlier) = woven.fresh j i earlier below covers
      by (inr later) =
          let none = subst (IsFirstCover log.protocol (cubes_of log.nodes) (i + 1) (length log.nodes) (node_at log.nodes i).cube) (live_link (node_at log.nodes i).fate live) (woven.links i below) in
          none j (omega arith) within (subst (λ d. DoesCover log.protocol d (node_at log.nodes i).cube) (sym (cube_at-cubes_of log.nodes j)) covers)

  -- what some node covers, a live one covers
  pub covered_live : (c : Cube) → IsCovered log.protocol (cubes_of log.nodes) c → IsCovered log.protocol (live_cubes log.nodes) c
  covered_live c covered =
      let (i, below, covers) = at_covered log.protocol (cubes_of log.nodes) c covered in
      let n = length-cubes_of log.nodes in
      let up = live_cover i (omega arith) in (
        (node_at log.nodes up.by).cube,
        has_live log.nodes up.by up.inside up.live,
        further log.protocol (node_at log.nodes up.by).cube (node_at log.nodes i).cube c up.covers (subst (λ d. DoesCover log.protocol d c) (cube_at-cubes_of log.nodes i) covers),
      )
