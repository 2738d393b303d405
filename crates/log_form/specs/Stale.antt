-- Verdicts on a node that were made on the first nodes of a log.
use Rattle.std.specs.Prelude.{◌≡◌, ◌⊎◌, List, [], ◌∷◌}
use Rattle.cub_proto.specs.declared.protocol.Protocol.{Protocol}
use Rattle.cub_cube.specs.declared.cube.Cube.{Cube}
use Rattle.cub_cube.specs.Cover.{IsCovered}
use Rattle.log_form.specs.declared.event.Added.{Added}

-- the picks, in order, that none of the cubes covers
abbrev pub KeepsUncovered : Protocol → List Cube → List Added → List Added → Type 0
KeepsUncovered p cubes [] kept = kept ≡ []
KeepsUncovered p cubes (a ∷ picks) kept =
    (IsCovered p cubes a.cube × KeepsUncovered p cubes picks kept)
    ⊎ ((IsCovered p cubes a.cube → ⊥) × ((rest : List Added) × (kept ≡ a ∷ rest) × KeepsUncovered p cubes picks rest))
