-- Which process stands at which place of a piece.
use Rattle.std.specs.Prelude.{ℕ, suc, ◌==◌, if◌then◌else◌, List, [], ◌∷◌, length, map, slice_index}
use Rattle.std.specs.List.{range_with_len}
use Rattle.cub_proto.specs.declared.event.Event.{Event}
use Rattle.cub_proto.specs.declared.event.Event.TheVariants.{Fire}
use Rattle.cub_proto.specs.Configuration.{Configuration}
use Rattle.cub_cube.specs.Rename.{along}
use Rattle.piece_choices.specs.declared.piece.Label.{Label}
use Rattle.piece_laws.specs.Event.{picks_by}

-- the place where q first stands in the list, and its length where q does not
abbrev pub position : List ℕ → ℕ → ℕ
position [] q = 0
position (r ∷ rs) q = if r == q then 0 else suc (position rs q)

-- the process at each place of a piece, where item p of the renaming is the piece's place for place p of a cube, and the
-- processes are those at the places of the cube
abbrev pub standing : List ℕ → List ℕ → List ℕ
standing places processes = map (λ q. slice_index processes (position places q)) (range_with_len 0 (length places))

-- the step that a label names, where item p of the list is the process at place p of the piece
abbrev pub step_by : Configuration → Label → List ℕ → Event
step_by s label processes = Fire label.transition (along label.params processes) (picks_by s label.choices processes)
