-- Covering by the cubes of a list, by their numbers; added cubes cover and are covered as their pieces are.
use Rattle.std.proofs.Common.{◌≡◌, ◌⊎◌, ℕ, ◌<◌, List, ◌++◌, length, sym, ◌∙◌, subst, inl, inr}
use Rattle.std.specs.Prelude.{Contains}
use Rattle.std.proofs.Math.ListN.{get_or-map}
use Rattle.std.proofs.lemmas.List.{get_or_default, length-map}
use Rattle.std.proofs.lemmas.List.Elements.{Contains-get_or, Contains-append_left, Contains-append_right, Contains-append_cases}
use Rattle.cub_proto.specs.declared.protocol.Protocol.{Protocol}
use Rattle.cub_cube.specs.declared.cube.Cube.{Cube}
use Rattle.cub_cube.specs.Rename.{along}
use Rattle.cub_cube.specs.Cover.{Covers, DoesCover, IsCovered}
use Rattle.cub_cube.proofs.Placing.{identity, inverse}
use Rattle.cub_cube.proofs.Covering.{covers_itself, covers_further, covering_meets, covers_big, covers_small}
use Rattle.log_form.specs.declared.node.Node.{Node}
use Rattle.log_form.specs.declared.event.Added.{Added}
use Rattle.log_form.specs.Forms.{IsForm}
use Rattle.cub_cube.specs.Starts.{IsStartCube}
use Rattle.log_form.specs.Links.{no_cube, cube_at}
use Rattle.log_form.specs.Log.{no_node, node_at, cubes_of, added_cubes}

-- ---- covering
pub itself : (p : Protocol) (c : Cube) → DoesCover p c c
itself p c = (identity c.width, covers_itself p c)

pub further : (p : Protocol) (d c b : Cube) → DoesCover p d c → DoesCover p c b → DoesCover p d b
further p d c b (q, first) (r, second) = (along q r, covers_further p d c b q r first second)

pub start_up : (p : Protocol) (d c : Cube) → DoesCover p d c → IsStartCube p c → IsStartCube p d
start_up p d c (r, covers) (s, start, meets) = (s, start, covering_meets p d c r covers s start.state meets)

-- what covers an added cube covers its piece, and the other way round
pub form_covers : (p : Protocol) (piece : Cube) (places : List ℕ) (c d : Cube) → IsForm p piece places c → DoesCover p d c → DoesCover p d piece
form_covers p piece places c d form (q, covers) =
    let of_width : Covers p d (record { width = piece.width; lits = c.lits }) q = subst (λ n. Covers p d (record { width = n; lits = c.lits }) q) form.width covers in
    (along q places, covers_big p piece.width places c.lits piece.lits form.onto form.same d q of_width)

pub form_covered : (p : Protocol) (piece : Cube) (places : List ℕ) (c d : Cube) → IsForm p piece places c → DoesCover p d piece → DoesCover p d c
form_covered p piece places c d form (q, covers) =
    let back = along q (inverse piece.width places form.onto) in
    let small : Covers p d (record { width = piece.width; lits = c.lits }) back = covers_small p piece.width places c.lits piece.lits form.onto form.same d q covers in
    (back, subst (λ n. Covers p d (record { width = n; lits = c.lits }) back) (sym form.width) small)

-- ---- by a cube of a list
pub covered_at : (p : Protocol) (cubes : List Cube) (c : Cube) (i : ℕ) → i < length cubes → DoesCover p (cube_at cubes i) c → IsCovered p cubes c
covered_at p cubes c i below covers = (cube_at cubes i, Contains-get_or cubes i no_cube below, covers)

pub at_covered : (p : Protocol) (cubes : List Cube) (c : Cube) → IsCovered p cubes c → (i : ℕ) × (i < length cubes) × DoesCover p (cube_at cubes i) c
at_covered p cubes c (d, (i, below, is), covers) =
    (i, below, subst (λ e. DoesCover p e c) (sym (get_or_default cubes i no_cube d below ∙ is)) covers)

pub covered_left : (p : Protocol) (xs ys : List Cube) (c : Cube) → IsCovered p xs c → IsCovered p (xs ++ ys) c
covered_left p xs ys c (d, inside, covers) = (d, Contains-append_left xs ys d inside, covers)

pub covered_right : (p : Protocol) (xs ys : List Cube) (c : Cube) → IsCovered p ys c → IsCovered p (xs ++ ys) c
covered_right p xs ys c (d, inside, covers) = (d, Contains-append_right xs ys d inside, covers)

pub covered_cases : (p : Protocol) (xs ys : List Cube) (c : Cube) → IsCovered p (xs ++ ys) c → IsCovered p xs c ⊎ IsCovered p ys c
covered_cases p xs ys c (d, inside, covers) = by (Contains-append_cases xs ys d inside)
  where
    by : Contains xs d ⊎ Contains ys d → IsCovered p xs c ⊎ IsCovered p ys c
    by (inl left) = inl (d, left, covers)
    by (inr right) = inr (d, right, covers)

-- what covers a cover covers
pub covered_further : (p : Protocol) (cubes : List Cube) (d c : Cube) → IsCovered p cubes d → DoesCover p d c → IsCovered p cubes c
covered_further p cubes d c (e, inside, covers) below = (e, inside, further p e d c covers below)

pub covered_form : (p : Protocol) (cubes : List Cube) (piece : Cube) (places : List ℕ) (c : Cube) → IsForm p piece places c → IsCovered p cubes c → IsCovered p cubes piece
covered_form p cubes piece places c form (d, inside, covers) = (d, inside, form_covers p piece places c d form covers)

-- ---- the cubes of nodes
pub cube_at-cubes_of : (nodes : List Node) (i : ℕ) → cube_at (cubes_of nodes) i ≡ (node_at nodes i).cube
cube_at-cubes_of nodes i = get_or-map (λ (n : Node). n.cube) nodes i no_node

pub length-cubes_of : (nodes : List Node) → length (cubes_of nodes) ≡ length nodes
length-cubes_of nodes = length-map nodes (λ (n : Node). n.cube)

pub length-added_cubes : (added : List Added) → length (added_cubes added) ≡ length added
length-added_cubes added = length-map added (λ (a : Added). a.cube)
