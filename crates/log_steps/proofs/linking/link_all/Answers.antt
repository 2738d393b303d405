use Rattle.std.proofs.Common.{◌<◌, refl, sym, subst, ◌∙◌, arith}
use Rattle.log_form.specs.Log.{node_at, cubes_of}
use Rattle.log_steps.specs.Commits.{IsLinkedBy}
use Rattle.log_steps.proofs.LinkLemmas.{linked_step, made_more, pick_stands, cube_stands}
use Rattle.log_steps.proofs.linking.link_all.Goals as goal

pub loop-number-preserved : goal.loop-number-preserved
loop-number-preserved g c =
    let p = c.args.protocol.now in
    let old = c.args.nodes.now in
    let now = c.loop-number.nodes in
    let by = c.loop-number.by in
    let x = c.index-picks-number.result in
    let called = c.link_pick-links in
    let invariant = c.loop-number.invariant in
    let count = invariant.count in
    let stands = pick_stands c.args.first by c.loop-number.number-index c.args.picks.now c.args.which.now old x c.requires.stand c.requires.numbers c.loop-number-test.true count c.index-picks-number.is in
    let cube = cube_stands (cubes_of old) old by x.cube refl stands in
    record {
      made = called.ensures.scratch;
      serves = called.ensures.serves;
      same = called.ensures.same ∙ invariant.same;
      count = omega arith;
      linked = λ i inside.
          linked_step p (cubes_of old) c.args.first by i (node_at old i) (node_at now i) (node_at called.new.nodes i) (omega arith) (invariant.linked i inside)
          (subst (λ d. IsLinkedBy p d by i (node_at now i) (node_at called.new.nodes i)) cube (called.ensures.linked i (subst (λ n. i < n) (sym c.loop-number.auto.nodes) inside)));
      tally = made_more old now called.new.nodes c.loop-number.links called.result invariant.tally called.ensures.made;
    }
