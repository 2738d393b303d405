use Rattle.std.proofs.Common.{◌∙◌, sym}
use Rattle.crew.proofs.Stepping.{more_steps, goes_further, least_step, still_legal, step_nearer}
use Rattle.crew.proofs.searching.expand_all.Goals as goal

pub loop-node-smaller : goal.loop-node-smaller
loop-node-smaller g c =
    let old = c.loop-node.log in
    let new = c.expand.new.self in
    let next = c.in-Some.ensures.some in
    let step = least_step old new c.in-Some.node c.in_ok-expand.field-0 next c.in_ok-expand.ensures.answer c.expand.ensures.chosen in
    step_nearer old new c.loop-node.invariant.legal step

pub loop-node-preserved : goal.loop-node-preserved
loop-node-preserved g c =
    let old = c.loop-node.log in
    let new = c.expand.new.self in
    let next = c.in-Some.ensures.some in
    let invariant = c.loop-node.invariant in
    let step = least_step old new c.in-Some.node c.in_ok-expand.field-0 next c.in_ok-expand.ensures.answer c.expand.ensures.chosen in
    record {
      made = c.expand.ensures.made;
      serves = c.expand.ensures.serves;
      protocol = invariant.protocol ∙ sym c.expand.ensures.later.protocol;
      cubes = c.expand.ensures.cubes;
      legal = still_legal old new c.in-Some.node c.in_ok-expand.field-0 next c.in_ok-expand.ensures.answer c.expand.ensures.chosen invariant.legal;
      least = more_steps c.args.log.now old new invariant.least step;
      later = goes_further c.args.log.now old new invariant.later c.expand.ensures.later;
    }
