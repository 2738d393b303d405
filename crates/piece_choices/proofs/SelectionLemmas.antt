-- A selection is in the list exactly where each of its choices is one that there is.
use Rattle.std.proofs.Common.{ℕ, ◌<◌, List, [], ◌∷◌, length, subst}
use Rattle.std.specs.Prelude.{map}
use Rattle.std.specs.List.{flat_map, AllZip}
use Rattle.cub_proto.specs.declared.literal.Term.{Term}
use Rattle.cub_proto.specs.declared.transition.Transition.{Transition}
use Rattle.cub_proto.specs.Signature.{Signature}
use Rattle.cub_proto.specs.Effect.{update_of}
use Rattle.cub_cube.specs.Step.{target_of}
use Rattle.cub_base.proofs.Members.{Has, has_map, map_has, has_flat_map, flat_map_has}
use Rattle.updates.specs.declared.choice.Choice.{Choice}
use Rattle.updates.specs.Ways.{numbers}
use Rattle.updates.specs.Chosen.{ways_of}
use Rattle.updates.proofs.Products.{has_number, number_has, product_has, has_product}
use Rattle.piece_choices.specs.Placings.{Placing, placings, free_places, new_places}
use Rattle.piece_choices.specs.Picks.{Picking, pickings}
use Rattle.piece_choices.specs.Selections.{Selection, selection, alternatives_at, ways_for, selections}
use Rattle.piece_choices.proofs.ListLemmas.{zip_through, through_zip}

pub record IsSelection (sig : Signature) (t : Transition) (width : ℕ) (terms : List Term) (x : Selection) : Type 0 where
  pub placed : Has (placings width t.params) x.placing
  pub guard : x.guard < length t.guard
  pub others : AllZip (λ q n. n < length t.others) (free_places x.placing.params x.placing.width) x.others
  pub plain : List Choice
  pub ways : AllZip (λ u c. Has (ways_of (update_of t.updates (target_of u)) u) c) terms plain
  pub picked : Has (pickings sig t.updates x.placing.params x.placing.width plain) x.picking
  pub late : AllZip (λ q n. n < length t.others) (new_places x.placing.width x.picking.width) x.late

alternatives_are : (t : Transition) (places ns : List ℕ) → Has (alternatives_at t places) ns → AllZip (λ q n. n < length t.others) places ns
alternatives_are t places ns h = each places ns (product_has (map (λ q. numbers t.others) places) ns h)
  where
    each : (places ns : List ℕ) → AllZip Has (map (λ q. numbers t.others) places) ns → AllZip (λ q n. n < length t.others) places ns
    each [] [] h = tt
    each [] (n ∷ ns) h = absurd h
    each (q ∷ qs) [] h = absurd h
    each (q ∷ qs) (n ∷ ns) h = (number_has t.others n h.0, each qs ns h.1)

are_alternatives : (t : Transition) (places ns : List ℕ) → AllZip (λ q n. n < length t.others) places ns → Has (alternatives_at t places) ns
are_alternatives t places ns h = has_product (map (λ q. numbers t.others) places) ns (each places ns h)
  where
    each : (places ns : List ℕ) → AllZip (λ q n. n < length t.others) places ns → AllZip Has (map (λ q. numbers t.others) places) ns
    each [] [] h = tt
    each [] (n ∷ ns) h = absurd h
    each (q ∷ qs) [] h = absurd h
    each (q ∷ qs) (n ∷ ns) h = (has_number t.others n h.0, each qs ns h.1)

module _ (sig : Signature) (t : Transition) (width : ℕ) (terms : List Term) where
  abbrev by_late : Placing → ℕ → List ℕ → Picking → List Selection
  by_late placing guard others picking = map (λ late. selection placing guard others picking late) (alternatives_at t (new_places placing.width picking.width))

  abbrev by_picks : Placing → ℕ → List ℕ → List Choice → List Selection
  by_picks placing guard others choices = flat_map (by_late placing guard others) (pickings sig t.updates placing.params placing.width choices)

  abbrev by_ways : Placing → ℕ → List ℕ → List Selection
  by_ways placing guard others = flat_map (by_picks placing guard others) (ways_for t terms)

  abbrev by_others : Placing → ℕ → List Selection
  by_others placing guard = flat_map (by_ways placing guard) (alternatives_at t (free_places placing.params placing.width))

  abbrev by_guard : Placing → List Selection
  by_guard placing = flat_map (by_others placing) (numbers t.guard)

  pub selection_is : (x : Selection) → Has (selections sig t width terms) x → IsSelection sig t width terms x
  selection_is x h =
      let placed = flat_map_has by_guard (placings width t.params) x h in
      let guarded = flat_map_has (by_others placed.0) (numbers t.guard) x placed.2 in
      let asked = flat_map_has (by_ways placed.0 guarded.0) (alternatives_at t (free_places placed.0.params placed.0.width)) x guarded.2 in
      let went = flat_map_has (by_picks placed.0 guarded.0 asked.0) (ways_for t terms) x asked.2 in
      let picked = flat_map_has (by_late placed.0 guarded.0 asked.0) (pickings sig t.updates placed.0.params placed.0.width went.0) x went.2 in
      let last = map_has (λ late. selection placed.0 guarded.0 asked.0 picked.0 late) (alternatives_at t (new_places placed.0.width picked.0.width)) x picked.2 in
      subst (IsSelection sig t width terms) last.2
      (record {
        placed = placed.1;
        guard = number_has t.guard guarded.0 guarded.1;
        others = alternatives_are t (free_places placed.0.params placed.0.width) asked.0 asked.1;
        plain = went.0;
        ways = through_zip Has (λ u. ways_of (update_of t.updates (target_of u)) u) terms went.0 (product_has (map (λ u. ways_of (update_of t.updates (target_of u)) u) terms) went.0 went.1);
        picked = picked.1;
        late = alternatives_are t (new_places placed.0.width picked.0.width) last.0 last.1;
      })

  pub is_selection : (x : Selection) → IsSelection sig t width terms x → Has (selections sig t width terms) x
  is_selection x is =
      has_flat_map by_guard (placings width t.params) x.placing x is.placed
      (has_flat_map (by_others x.placing) (numbers t.guard) x.guard x (has_number t.guard x.guard is.guard)
      (has_flat_map (by_ways x.placing x.guard) (alternatives_at t (free_places x.placing.params x.placing.width)) x.others x (are_alternatives t (free_places x.placing.params x.placing.width) x.others is.others)
      (has_flat_map (by_picks x.placing x.guard x.others) (ways_for t terms) is.plain x (has_product (map (λ u. ways_of (update_of t.updates (target_of u)) u) terms) is.plain (zip_through Has (λ u. ways_of (update_of t.updates (target_of u)) u) terms is.plain is.ways))
      (has_flat_map (by_late x.placing x.guard x.others) (pickings sig t.updates x.placing.params x.placing.width is.plain) x.picking x is.picked
      (has_map (λ late. selection x.placing x.guard x.others x.picking late) (alternatives_at t (new_places x.placing.width x.picking.width)) x.late (are_alternatives t (new_places x.placing.width x.picking.width) x.late is.late))))))
