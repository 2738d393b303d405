use Rattle.std.proofs.Common.{◌≤◌, length, set, ◌∙◌, ap, subst, arith}
use Rattle.log_form.specs.Log.{node_at}
use Rattle.log_steps.specs.Commits.{linked_to}
use Rattle.log_steps.proofs.LinkLemmas.{at_item, left_more, left_none, made_more}
use Rattle.log_steps.proofs.linking.link_known.Goals as goal

pub loop-link-preserved : goal.loop-link-preserved
loop-link-preserved g c =
    let invariant = c.loop-link.invariant in
    let called = c.link_found-links in
    let u = c.link-item.result in
    let old = c.args.nodes.now in
    let now = c.loop-link.nodes in
    let (below, is) = at_item c.args.pick.now.under c.as_slice-link-items.result.now c.loop-link.link-index u c.as_slice-link-items.ensures c.loop-link-test.true c.link-item.is in
    record {
      serves = called.ensures.serves;
      same = called.ensures.same ∙ invariant.same;
      left = left_more c.args.protocol.now (g.F.Finder.list c.args.finder.now) c.args.pick.now.cube c.args.by c.args.seen c.args.pick.now.under c.loop-link.link-index u old now called.new.nodes
          c.requires.cubes (omega arith) c.requires.seen c.loop-link.auto.nodes below is (called.ensures.linked ∙ ap (λ places. set now u.node (linked_to c.args.by places (node_at now u.node))) c.copy.ensures)
          invariant.left;
      made = made_more old now called.new.nodes c.loop-link.links called.result invariant.made called.ensures.made;
    }

pub returns-clause-linked : goal.returns-clause-linked
returns-clause-linked g c =
    let past = subst (λ us. length us ≤ c.loop-link.link-index) c.as_slice-link-items.ensures c.loop-link-test.false in
    left_none c.args.protocol.now (g.F.Finder.list c.args.finder.now) c.args.pick.now.cube c.args.by c.args.seen c.args.pick.now.under c.loop-link.link-index c.args.nodes.now c.loop-link.nodes
    c.requires.cubes (omega arith) past c.loop-link.invariant.left
