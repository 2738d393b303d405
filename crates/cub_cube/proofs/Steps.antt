-- After a step a term at alive processes has the value of its update before.
use Rattle.std.proofs.Common.{◌≡◌, ℕ, zero, suc, ◌+◌, ◌<◌, true, List, [], ◌∷◌, ◌++◌, length, get_or, Option, ap, ◌∙◌, arith}
use Rattle.std.specs.Prelude.{if◌then◌else◌, slice_index}
use Rattle.cub_proto.specs.declared.literal.Term.{Term}
use Rattle.cub_proto.specs.declared.transition.Target.TheVariants as Target
use Rattle.cub_proto.specs.declared.transition.Update.{Update}
use Rattle.cub_proto.specs.declared.state.Slot.{Slot}
use Rattle.cub_proto.specs.declared.state.Val.{Val}
use Rattle.cub_proto.specs.declared.state.Val.TheVariants.{Con}
use Rattle.cub_proto.specs.Configuration.{Configuration, is_alive, cells_of}
use Rattle.cub_proto.specs.Truth.{term_value, HasTerm}
use Rattle.cub_base.specs.Numbered.{map_from}
use Rattle.cub_base.proofs.Numbered.{get_or-map_from_zero}
use Rattle.cub_proto.specs.Effect.{fired, updated, update_of, global_after, cell_after, cells_after}
use Rattle.cub_proto.specs.Legal.{AreDistinctAlive}
use Rattle.cub_cube.specs.Step.{value_after}

pub term_after : (s : Configuration) (params : List ℕ) (updates : List Update) (pick : Slot → Option Val) (places : List ℕ) (t : Term) → HasTerm s places t → AreDistinctAlive s places
    → term_value (fired s params updates pick) places t ≡ value_after s params updates pick places t
term_after s params updates pick places (Term.Global g) has processes = get_or-map_from_zero (global_after s params updates pick) s.globals g (Con 0) (Con 0) has
term_after s params updates pick places (Term.Cell a p) has processes =
    let i = slice_index places p in
    let row = get_or-map_from_zero (cells_after s params updates pick) s.arrays a [] [] has.1.0 in
    let cell = get_or-map_from_zero (cell_after s params (update_of updates (Target.Array a)) pick a) (cells_of s a) i (Con 0) (Con 0) has.1.1 in
    let alive : is_alive s i ≡ true = processes.alive p 0 has.0 in
    ap (λ cells. get_or cells i (Con 0)) row ∙ cell
    ∙ ap (λ b. if b then updated s (params ++ i ∷ []) (update_of updates (Target.Array a)) (pick (Slot.Cell a i)) (get_or (cells_of s a) i (Con 0)) else get_or (cells_of s a) i (Con 0)) alive
