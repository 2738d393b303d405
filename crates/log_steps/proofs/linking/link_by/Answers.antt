use Rattle.std.proofs.Common.{◌∙◌, length, arith}
use Rattle.log_steps.proofs.LinkLemmas.{under_found, under_none, skipped, linked_one, made_more}
use Rattle.log_steps.proofs.linking.link_by.Goals as goal

pub loop-link-preserved : goal.loop-link-preserved
loop-link-preserved g c =
    let p = c.args.protocol.now in
    let cube = c.args.cube.now in
    let by = c.args.by in
    let link = c.in-Some.link in
    let old = c.args.nodes.now in
    let invariant = c.loop-link.invariant in
    let found = under_found p (g.F.Finder.list c.loop-link.finder) old c.loop-link.at cube link (invariant.same ∙ c.requires.cubes) c.in-Some.ensures.first in
    let low = found.from in
    let inside = found.below in
    let begun = invariant.begun in
    record {
      made = c.under.ensures.made;
      serves = c.link_found-links.ensures.serves;
      same = c.link_found-links.ensures.same ∙ (c.under.ensures.same ∙ invariant.same);
      begun = omega arith;
      few = omega arith;
      linked = linked_one p cube by c.args.start link.0 link.1 old c.loop-link.nodes c.link_found-links.new.nodes c.if-number-by.false (omega arith) inside c.loop-link.auto.nodes found.least
          (skipped p cube by c.args.start c.loop-link.at link.0 old c.loop-link.nodes (λ i from below before within covers. found.none i from below covers) begun low invariant.linked)
          c.link_found-links.ensures.linked;
      tally = made_more old c.loop-link.nodes c.link_found-links.new.nodes c.loop-link.links c.link_found-links.result invariant.tally c.link_found-links.ensures.made;
    }

pub returns-then-number-by-clause-linked : goal.returns-then-number-by-clause-linked
returns-then-number-by-clause-linked g c =
    let p = c.args.protocol.now in
    let cube = c.args.cube.now in
    let old = c.args.nodes.now in
    let link = c.in-Some.link in
    let past = c.if-number-by.true in
    let invariant = c.loop-link.invariant in
    let found = under_found p (g.F.Finder.list c.loop-link.finder) old c.loop-link.at cube link (invariant.same ∙ c.requires.cubes) c.in-Some.ensures.first in
    skipped p cube c.args.by c.args.start c.loop-link.at (length old) old c.loop-link.nodes (λ i from below before within covers. found.none i from (omega arith) covers) invariant.begun invariant.few invariant.linked

pub returns-in_default-clause-linked : goal.returns-in_default-clause-linked
returns-in_default-clause-linked g c =
    let p = c.args.protocol.now in
    let cube = c.args.cube.now in
    let old = c.args.nodes.now in
    let invariant = c.loop-link.invariant in
    let none = under_none p (g.F.Finder.list c.loop-link.finder) old c.loop-link.at cube (invariant.same ∙ c.requires.cubes) c.in_default.ensures.first in
    skipped p cube c.args.by c.args.start c.loop-link.at (length old) old c.loop-link.nodes (λ i from below before within covers. none i from within covers) invariant.begun invariant.few invariant.linked
