use Rattle.std.proofs.Common.{◌≡◌, ℕ, List, All, true, sym, subst, ap, ◌∙◌}
use Rattle.std.proofs.lemmas.Bool.{and_parts}
use Rattle.std.proofs.lemmas.List.Elements.{All-weaker}
use Rattle.cub_proto.specs.declared.transition.Update.{Update}
use Rattle.cub_proto.specs.declared.event.Chosen.{Chosen}
use Rattle.cub_proto.specs.Configuration.{Configuration, HasSlot}
use Rattle.cub_proto.specs.Effect.{fired, picked}
use Rattle.replay.specs.Fault.{is_free_slot, is_no_dead, is_allowed}
use Rattle.replay.specs.Reads.{ReadsTarget, ReadsUpdates}
use Rattle.replay.specs.Writes.{HasTarget, SameShape, written, placed, copied}
use Rattle.replay.proofs.Shapes.{shape_sym, fired_shape, has_slot_shape, has_target_shape}
use Rattle.replay.proofs.Passes.{nothing, written_all, placed_all, copied_all, free_there}
use Rattle.replay.proofs.effect.fire.Goals as goal

targets_there : (s : Configuration) (params : List ℕ) (us : List Update) → ReadsUpdates s params us → All (λ u. HasTarget s u.target) us
targets_there s params us reads =
    All-weaker (λ u. HasTarget s u.target × ReadsTarget s params u u.target) (λ u. HasTarget s u.target) (λ u h. h.0) us reads

slots_there : (s : Configuration) (params : List ℕ) (us : List Update) (picks : List Chosen) → ReadsUpdates s params us → All (λ c. is_allowed s us params c ≡ true) picks → All (λ c. HasSlot s c.slot) picks
slots_there s params us picks reads allowed =
    All-weaker (λ c. is_allowed s us params c ≡ true) (λ c. HasSlot s c.slot)
    (λ c h. free_there s us params c.slot (and_parts (is_free_slot s us params c.slot) (is_no_dead s c.val) h).0 (targets_there s params us reads)) picks allowed

pub place_picks-requires : goal.place_picks-requires
place_picks-requires c =
    let s = c.args.state.now in
    let params = c.args.params.now in
    let us = c.args.updates.now in
    let picks = c.args.picks.now in
    let first = c.write_updates.ensures ∙ ap (λ t. written s params t us) c.requires.twin ∙ written_all s params us c.requires.targets (targets_there s params us c.requires.reads) in
    subst (λ t. All (λ d. HasSlot t d.slot) picks) (sym first)
    (All-weaker (λ d. HasSlot s d.slot) (λ d. HasSlot (fired s params us nothing) d.slot)
    (λ d h. has_slot_shape s (fired s params us nothing) d.slot (fired_shape s params us nothing) h) picks
    (slots_there s params us picks c.requires.reads c.requires.allowed))

pub copy_targets-requires-clause-targets : goal.copy_targets-requires-clause-targets
copy_targets-requires-clause-targets c =
    let s = c.args.state.now in
    let params = c.args.params.now in
    let us = c.args.updates.now in
    let picks = c.args.picks.now in
    let there = targets_there s params us c.requires.reads in
    let first = c.write_updates.ensures ∙ ap (λ t. written s params t us) c.requires.twin ∙ written_all s params us c.requires.targets there in
    let second = c.place_picks.ensures ∙ ap (λ t. placed t picks) first ∙ placed_all s params us picks there c.requires.rising c.requires.allowed in
    subst (λ t. All (λ u. HasTarget t u.target) us) (sym second)
    (All-weaker (λ u. HasTarget s u.target) (λ u. HasTarget (fired s params us (picked picks)) u.target)
    (λ u h. has_target_shape s (fired s params us (picked picks)) u.target (fired_shape s params us (picked picks)) h) us there)

pub copy_targets-requires-clause-shape : goal.copy_targets-requires-clause-shape
copy_targets-requires-clause-shape c =
    let s = c.args.state.now in
    let params = c.args.params.now in
    let us = c.args.updates.now in
    let picks = c.args.picks.now in
    let there = targets_there s params us c.requires.reads in
    let first = c.write_updates.ensures ∙ ap (λ t. written s params t us) c.requires.twin ∙ written_all s params us c.requires.targets there in
    let second = c.place_picks.ensures ∙ ap (λ t. placed t picks) first ∙ placed_all s params us picks there c.requires.rising c.requires.allowed in
    subst (λ t. SameShape t s) (sym second) (shape_sym s (fired s params us (picked picks)) (fired_shape s params us (picked picks)))

pub returns-clause-state : goal.returns-clause-state
returns-clause-state c =
    let s = c.args.state.now in
    let params = c.args.params.now in
    let us = c.args.updates.now in
    let picks = c.args.picks.now in
    let there = targets_there s params us c.requires.reads in
    let first = c.write_updates.ensures ∙ ap (λ t. written s params t us) c.requires.twin ∙ written_all s params us c.requires.targets there in
    let second = c.place_picks.ensures ∙ ap (λ t. placed t picks) first ∙ placed_all s params us picks there c.requires.rising c.requires.allowed in
    c.copy_targets.ensures ∙ ap (λ t. copied t s us) second ∙ copied_all s params (picked picks) us c.requires.targets there

pub returns-clause-twin : goal.returns-clause-twin
returns-clause-twin c =
    let s = c.args.state.now in
    let params = c.args.params.now in
    let us = c.args.updates.now in
    let picks = c.args.picks.now in
    let there = targets_there s params us c.requires.reads in
    let first = c.write_updates.ensures ∙ ap (λ t. written s params t us) c.requires.twin ∙ written_all s params us c.requires.targets there in
    let second = c.place_picks.ensures ∙ ap (λ t. placed t picks) first ∙ placed_all s params us picks there c.requires.rising c.requires.allowed in
    second ∙ sym (c.copy_targets.ensures ∙ ap (λ t. copied t s us) second ∙ copied_all s params (picked picks) us c.requires.targets there)
