-- The nodes after an event that adds: the old ones and the added ones, each with its cube, origin and places.
use Rattle.std.proofs.Common.{◌≡◌, ℕ, ◌+◌, ◌<◌, List, [], ◌∷◌, ◌++◌, length, get_or, refl, sym, ap, ◌∙◌, subst, arith}
use Rattle.std.specs.Prelude.{Option}
use Rattle.std.proofs.lemmas.List.{map-append, length-append, length-map, get_or_append_left, get_or-append_right, get_or-map, ext_get_or}
use Rattle.log_form.specs.declared.node.Node.{Node}
use Rattle.log_form.specs.declared.event.Added.{Added}
use Rattle.log_form.specs.declared.event.LogEvent.{LogEvent}
use Rattle.log_form.specs.Links.{no_cube, cube_at}
use Rattle.log_form.specs.Log.{LogValue, no_node, node_at, cubes_of, added_cubes, new_node, new_nodes}
use Rattle.log_form.specs.Legal.{grown, Grows}
use Rattle.log_form.proofs.Covered.{cube_at-cubes_of, length-cubes_of}

abbrev pub no_added : Added
no_added = record { piece = 0; places = []; cube = no_cube }

pub new_cubes : (from : Option ℕ) (list : List Added) → cubes_of (new_nodes from list) ≡ added_cubes list
new_cubes from [] = refl
new_cubes from (a ∷ list) = ap (λ cs. a.cube ∷ cs) (new_cubes from list)

pub cubes_grown : (log : LogValue) (event : LogEvent) (list : List Added) → cubes_of (grown log event list) ≡ cubes_of log.nodes ++ added_cubes list
cubes_grown log event list =
    map-append (λ (n : Node). n.cube) log.nodes (new_nodes event.node list) ∙ ap (λ cs. cubes_of log.nodes ++ cs) (new_cubes event.node list)

pub count_grown : (log : LogValue) (event : LogEvent) (list : List Added) → length (grown log event list) ≡ length log.nodes + length list
count_grown log event list = length-append log.nodes (new_nodes event.node list) ∙ ap (λ n. length log.nodes + n) (length-map list (new_node event.node))

pub old_node : (log : LogValue) (event : LogEvent) (list : List Added) (i : ℕ) → i < length log.nodes → node_at (grown log event list) i ≡ node_at log.nodes i
old_node log event list i below = get_or_append_left log.nodes (new_nodes event.node list) no_node i below

pub added_node : (log : LogValue) (event : LogEvent) (list : List Added) (i k : ℕ) → i ≡ length log.nodes + k → k < length list
    → node_at (grown log event list) i ≡ new_node event.node (get_or list k no_added)
added_node log event list i k is below =
    get_or-append_right log.nodes (new_nodes event.node list) (length log.nodes) i no_node refl (omega arith)
    ∙ (ap (λ n. get_or (new_nodes event.node list) n no_node) (omega arith)
    ∙ get_or-map (new_node event.node) list k no_added no_node below)

pub added_cube : (list : List Added) (k : ℕ) → k < length list → cube_at (added_cubes list) k ≡ (get_or list k no_added).cube
added_cube list k below = get_or-map (λ (a : Added). a.cube) list k no_added no_cube below

module _ (log : LogValue) (event : LogEvent) (list : List Added) (after : LogValue) (grows : Grows log event list after) where
  -- what stays of a node
  pub same_cube : (i : ℕ) → i < length after.nodes → (node_at after.nodes i).cube ≡ (node_at (grown log event list) i).cube
  same_cube i below = ap (λ (n : Node). n.cube) (grows.nodes i below).is

  pub same_origin : (i : ℕ) → i < length after.nodes → (node_at after.nodes i).origin ≡ (node_at (grown log event list) i).origin
  same_origin i below = ap (λ (n : Node). n.origin) (grows.nodes i below).is

  pub same_places : (i : ℕ) → i < length after.nodes → (node_at after.nodes i).places ≡ (node_at (grown log event list) i).places
  same_places i below = ap (λ (n : Node). n.places) (grows.nodes i below).is

  pub cubes_same : cubes_of after.nodes ≡ cubes_of (grown log event list)
  cubes_same = ext_get_or no_cube (cubes_of after.nodes) (cubes_of (grown log event list))
      (length-cubes_of after.nodes ∙ (grows.count ∙ sym (length-cubes_of (grown log event list) ∙ count_grown log event list)))
      (λ i below. cube_at-cubes_of after.nodes i ∙ (same_cube i (subst (λ n. i < n) (length-cubes_of after.nodes) below) ∙ sym (cube_at-cubes_of (grown log event list) i)))

  pub cubes_after : cubes_of after.nodes ≡ cubes_of log.nodes ++ added_cubes list
  cubes_after = cubes_same ∙ cubes_grown log event list

  -- the cube of an old node stays, and the cube of an added one is the added cube
  pub old_cube : (i : ℕ) → i < length log.nodes → (node_at after.nodes i).cube ≡ (node_at log.nodes i).cube
  old_cube i below = same_cube i (let n = grows.count in omega arith) ∙ ap (λ (n : Node). n.cube) (old_node log event list i below)

  pub new_cube : (i k : ℕ) → i ≡ length log.nodes + k → k < length list → (node_at after.nodes i).cube ≡ cube_at (added_cubes list) k
  new_cube i k is below =
      same_cube i (let n = grows.count in omega arith)
      ∙ (ap (λ (n : Node). n.cube) (added_node log event list i k is below) ∙ sym (added_cube list k below))
