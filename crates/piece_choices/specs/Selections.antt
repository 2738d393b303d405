-- All choices for one transition and one cube, in lexicographic order.
use Rattle.std.specs.Prelude.{ℕ, List, map}
use Rattle.std.specs.List.{flat_map}
use Rattle.cub_proto.specs.declared.literal.Term.{Term}
use Rattle.cub_proto.specs.declared.transition.Transition.{Transition}
use Rattle.cub_proto.specs.Signature.{Signature}
use Rattle.cub_proto.specs.Effect.{update_of}
use Rattle.cub_cube.specs.Step.{target_of}
use Rattle.updates.specs.declared.choice.Choice.{Choice}
use Rattle.updates.specs.Ways.{product, numbers}
use Rattle.updates.specs.Chosen.{ways_of}
use Rattle.piece_choices.specs.Placings.{Placing, placings, free_places, new_places}
use Rattle.piece_choices.specs.Picks.{Picking, pickings}

-- the choices of a piece: places of the parameters, an alternative of the guard, one of the universal guard at each place
-- that is no parameter, a way with its pick for each term, and an alternative of the universal guard at each new place of a pick
pub record Selection : Type 0 where
  pub placing : Placing
  pub guard : ℕ
  pub others : List ℕ
  pub picking : Picking
  pub late : List ℕ

abbrev pub selection : Placing → ℕ → List ℕ → Picking → List ℕ → Selection
selection placing guard others picking late =
    record { placing = placing; guard = guard; others = others; picking = picking; late = late }

-- an alternative of the universal guard at each of the places
abbrev pub alternatives_at : Transition → List ℕ → List (List ℕ)
alternatives_at t places = product (map (λ q. numbers t.others) places)

-- a way for each term
abbrev pub ways_for : Transition → List Term → List (List Choice)
ways_for t terms = product (map (λ u. ways_of (update_of t.updates (target_of u)) u) terms)

-- all choices, those made first decide first
abbrev pub selections : Signature → Transition → ℕ → List Term → List Selection
selections sig t width terms =
    flat_map (λ placing.
    flat_map (λ guard.
    flat_map (λ others.
    flat_map (λ choices.
    flat_map (λ picking.
    map (λ late. selection placing guard others picking late)
    (alternatives_at t (new_places placing.width picking.width)))
    (pickings sig t.updates placing.params placing.width choices))
    (ways_for t terms))
    (alternatives_at t (free_places placing.params placing.width)))
    (numbers t.guard))
    (placings width t.params)
