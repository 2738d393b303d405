use Rattle.std.proofs.Common.{◌+◌, All, subst, sym, ap, ◌∙◌, drop, get_or}
use Rattle.std.proofs.lemmas.List.{at_drop_more}
use Rattle.std.proofs.lemmas.List.Elements.{All-weaker}
use Rattle.cub_proto.specs.declared.event.Chosen.{Chosen}
use Rattle.cub_proto.specs.declared.state.Slot.TheVariants as Slot
use Rattle.cub_proto.specs.declared.state.Val.TheVariants.{Con}
use Rattle.cub_proto.specs.Configuration.{HasSlot, put}
use Rattle.replay.specs.Writes.{placed}
use Rattle.replay.proofs.Shapes.{shape_same, shape_put, has_slot_shape}
use Rattle.replay.proofs.effect.place_picks.Goals as goal

pub loop-pick-preserved : goal.loop-pick-preserved
loop-pick-preserved c =
    let next = c.loop-pick.next in
    let picks = c.args.picks.now in
    let i = c.loop-pick.pick-index in
    let inv = c.loop-pick.invariant in
    let none : Chosen = record { slot = Slot.Global 0; val = Con 0 } in
    let pick = get_or picks i none in
    let shape = shape_put next next pick.slot pick.val (shape_same next) in
    record {
      rest =
          ap (λ t. placed t (drop (i + 1) picks)) c.set.ensures
          ∙ sym (at_drop_more (placed next) picks i none c.loop-pick-test.true) ∙ inv.rest;
      there =
          subst (λ t. All (λ p. HasSlot t p.slot) picks) (sym c.set.ensures)
          (All-weaker (λ p. HasSlot next p.slot) (λ p. HasSlot (put next pick.slot pick.val) p.slot)
          (λ p h. has_slot_shape next (put next pick.slot pick.val) p.slot shape h) picks inv.there);
    }
