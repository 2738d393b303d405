-- What the choices say of the state before the step.
use Rattle.std.specs.Prelude.{ℕ, List, [], ◌∷◌, ◌++◌, map, slice_index_or}
use Rattle.std.specs.List.{flat_map}
use Rattle.cub_proto.specs.declared.literal.Lit.{Lit}
use Rattle.cub_proto.specs.declared.transition.Transition.{Transition}
use Rattle.cub_proto.specs.Signature.{Signature}
use Rattle.cub_cube.specs.Normal.{normal_form}
use Rattle.cub_cube.specs.Rename.{renamed_all}
use Rattle.updates.specs.Chosen.{choice_lits}
use Rattle.updates.specs.Through.{literal_before}
use Rattle.piece_choices.specs.declared.piece.Label.{Label}
use Rattle.piece_choices.specs.declared.piece.Piece.{Piece}
use Rattle.piece_choices.specs.Placings.{free_places, new_places}
use Rattle.piece_choices.specs.Selections.{Selection}

-- the alternative of the guard with that number, at the places of the parameters
abbrev pub guard_lits : Transition → List ℕ → ℕ → List Lit
guard_lits t params n = renamed_all params (slice_index_or t.guard n [])

-- at each of the places its alternative of the universal guard
abbrev pub permissions : Transition → List ℕ → List ℕ → List ℕ → List Lit
permissions t params [] others = []
permissions t params (q ∷ qs) [] = []
permissions t params (q ∷ qs) (n ∷ ns) = renamed_all (params ++ q ∷ []) (slice_index_or t.others n []) ++ permissions t params qs ns

-- the literals of all choices, and those of the cube as they are before the step
abbrev pub conjunction : Signature → Transition → Selection → List Lit → List Lit
conjunction sig t x lits =
    guard_lits t x.placing.params x.guard
    ++ (permissions t x.placing.params (free_places x.placing.params x.placing.width) x.others
    ++ (flat_map (choice_lits sig t.updates x.placing.params) x.picking.choices
    ++ (permissions t x.placing.params (new_places x.placing.width x.picking.width) x.late
    ++ map (literal_before sig t.updates x.placing.params x.picking.choices) lits)))

abbrev pub label_of : ℕ → Selection → Label
label_of number x = record {
  transition = number;
  params = x.placing.params;
  guard = x.guard;
  others = x.others ++ x.late;
  choices = x.picking.choices;
}

-- the conjunction as a cube, with its choices
abbrev pub piece_by : Signature → ℕ → Transition → List Lit → Selection → Piece
piece_by sig number t lits x = record {
  label = label_of number x;
  cube = record { width = x.picking.width; lits = normal_form sig (conjunction sig t x lits) };
}
