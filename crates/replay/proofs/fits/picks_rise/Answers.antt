use Rattle.std.proofs.Common.{◌≡◌, ◌-◌, ◌+◌, ◌≤◌, length, drop, get_or, refl, sym, ap, ◌∙◌, arith, length-drop}
use Rattle.cub_proto.specs.declared.event.Chosen.{Chosen}
use Rattle.cub_proto.specs.declared.state.Slot.TheVariants as Slot
use Rattle.cub_proto.specs.declared.state.Val.TheVariants.{Con}
use Rattle.cub_proto.specs.Legal.{picks_rise}
use Rattle.replay.proofs.Rising.{rise_at, rise_short}
use Rattle.replay.proofs.fits.picks_rise.Goals as goal

pub loop-at-preserved : goal.loop-at-preserved
loop-at-preserved c =
    let picks = c.args.picks.now in
    let at = c.loop-at.at in
    let none : Chosen = record { slot = Slot.Global 0; val = Con 0 } in
    let back : at + 1 - 1 ≡ at = omega arith in
    ap (λ k. picks_rise (drop k picks)) back
    ∙ sym (rise_at picks at (get_or picks (at - 1) none) (get_or picks at none) none (omega arith) (omega arith) refl refl (sym c.if-not-slot_before.ensures))
    ∙ c.loop-at.invariant

pub returns : goal.returns
returns c =
    let short : length (drop (c.loop-at.at - 1) c.args.picks.now) ≤ 1 = omega (arith, length-drop (c.loop-at.at - 1) c.args.picks.now) in
    sym (rise_short _ short) ∙ c.loop-at.invariant
