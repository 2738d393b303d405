use Rattle.std.proofs.Common.{arith}
use Rattle.log_form.specs.declared.node.Fate.{Fate}
use Rattle.log_form.specs.Log.{node_at}
use Rattle.log_form.proofs.Covered.{itself as covers_itself, further}
use Rattle.core_laws.specs.Following.LeadsTo.{itself, onward}
use Rattle.core_laws.proofs.LiveLemmas.{fate_at, next_covers}
use Rattle.core_laws.proofs.following.live_cover.Goals as goal

pub loop-at-init : goal.loop-at-init
loop-at-init g c = record {
  later = omega arith;
  inside = c.requires;
  end = itself c.args.node;
  covers = covers_itself c.args.log.now.protocol (node_at c.args.log.now.nodes c.args.node).cube;
}

pub loop-at-smaller : goal.loop-at-smaller
loop-at-smaller g c =
    let log = c.args.log.now in
    let at = c.loop-at.at in
    let is = fate_at log.nodes c.nodes-nodes.result.now at c.index-nodes-at.result (Fate.Covered c.in-Covered.by c.in-Covered.places) c.nodes-nodes.ensures.value c.loop-at.invariant.inside c.in-Covered.is in
    let (low, high, covers) = next_covers g.M.PreImages.pieces log c.nodes-nodes.ensures.legal at c.in-Covered.by c.in-Covered.places c.loop-at.invariant.inside is in
    omega arith

pub loop-at-preserved : goal.loop-at-preserved
loop-at-preserved g c =
    let log = c.args.log.now in
    let at = c.loop-at.at in
    let invariant = c.loop-at.invariant in
    let is = fate_at log.nodes c.nodes-nodes.result.now at c.index-nodes-at.result (Fate.Covered c.in-Covered.by c.in-Covered.places) c.nodes-nodes.ensures.value invariant.inside c.in-Covered.is in
    let (low, high, covers) = next_covers g.M.PreImages.pieces log c.nodes-nodes.ensures.legal at c.in-Covered.by c.in-Covered.places invariant.inside is in
    let later = invariant.later in
    record {
      later = omega arith;
      inside = high;
      end = onward c.args.node at c.in-Covered.by c.in-Covered.places invariant.end is;
      covers = further log.protocol (node_at log.nodes c.in-Covered.by).cube (node_at log.nodes at).cube (node_at log.nodes c.args.node).cube covers invariant.covers;
    }
