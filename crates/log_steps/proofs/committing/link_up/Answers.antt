use Rattle.std.proofs.Common.{◌-◌, take, sym, subst, arith}
use Rattle.log_form.specs.declared.event.Mark.{Mark}
use Rattle.log_steps.specs.Commits.{kept_of, IsLinkedUp}
use Rattle.log_steps.proofs.CommitLemmas.{bad_some, tells_all, up_bad, up_none, up_some}
use Rattle.log_steps.proofs.committing.link_up.Goals as goal

pub overflow_sub-node : goal.overflow_sub-node
overflow_sub-node g c =
    let p = c.args.protocol.now in
    let tell = tells_all p (take c.args.seen (g.F.Finder.list c.args.finder.now)) c.args.picks.now c.requires.may.exact in
    let some = bad_some p c.args.picks.now c.args.which.now ((c.ends_bad.ensures p tell).0 c.if-ends_bad.true) in
    let same = c.link_all-links.auto.nodes in
    let count = c.requires.count in
    omega arith

pub returns-then-ends_bad-clause-linked : goal.returns-then-ends_bad-clause-linked
returns-then-ends_bad-clause-linked g c =
    let p = c.args.protocol.now in
    let list = kept_of c.args.picks.now c.args.which.now in
    let old = c.args.nodes.now in
    let new = c.link_all-links.new.nodes in
    let links = c.link_all-links.result in
    let tell = tells_all p (take c.args.seen (g.F.Finder.list c.args.finder.now)) c.args.picks.now c.requires.may.exact in
    subst (λ n. IsLinkedUp p c.args.first c.args.node list old new (Mark.Bad (n - 1)) links) (sym c.link_all-links.auto.nodes)
    (up_bad p c.args.first list old new links c.link_all-links.auto.nodes c.link_all-links.ensures.linked c.link_all-links.ensures.made c.args.node ((c.ends_bad.ensures p tell).0 c.if-ends_bad.true))

pub returns-in-Some-clause-linked : goal.returns-in-Some-clause-linked
returns-in-Some-clause-linked g c =
    let p = c.args.protocol.now in
    let list = kept_of c.args.picks.now c.args.which.now in
    let old = c.args.nodes.now in
    let new = c.link_all-links.new.nodes in
    let links = c.link_all-links.result in
    let number = c.in-Some.number in
    let tell = tells_all p (take c.args.seen (g.F.Finder.list c.args.finder.now)) c.args.picks.now c.requires.may.exact in
    subst (λ node. IsLinkedUp p c.args.first node list old c.settle.new.nodes Mark.Going links) (sym c.in-Some.is)
    (up_some p c.args.first list old new links c.link_all-links.auto.nodes c.link_all-links.ensures.linked c.link_all-links.ensures.made number (rw c.in-Some.is at c.requires.inside) c.settle.new.nodes
    c.settle.ensures (λ bad. let t = (c.ends_bad.ensures p tell).1 bad in let f = c.if-ends_bad.false in cc))

pub returns-in_default-clause-linked : goal.returns-in_default-clause-linked
returns-in_default-clause-linked g c =
    let p = c.args.protocol.now in
    let list = kept_of c.args.picks.now c.args.which.now in
    let old = c.args.nodes.now in
    let new = c.link_all-links.new.nodes in
    let links = c.link_all-links.result in
    let tell = tells_all p (take c.args.seen (g.F.Finder.list c.args.finder.now)) c.args.picks.now c.requires.may.exact in
    subst (λ node. IsLinkedUp p c.args.first node list old new Mark.Going links) (sym c.in_default.is)
    (up_none p c.args.first list old new links c.link_all-links.auto.nodes c.link_all-links.ensures.linked c.link_all-links.ensures.made
    (λ bad. let t = (c.ends_bad.ensures p tell).1 bad in let f = c.if-ends_bad.false in cc))
