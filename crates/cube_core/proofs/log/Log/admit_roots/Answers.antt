use Rattle.std.proofs.Common.{◌≤◌, length, subst}
use Rattle.log_form.proofs.Prefixes.{legal_first}
use Rattle.cube_core.specs.Waiting.{NoneOpenBefore}
use Rattle.cube_core.proofs.LeadLemmas.{may_roots}
use Rattle.cube_core.proofs.FirstLemmas.{first_refused, first_admitted, given_roots}
use Rattle.cube_core.proofs.log.Log.admit_roots.Goals as goal

pub returns-in-Err-clause-fault : goal.returns-in-Err-clause-fault
returns-in-Err-clause-fault g c =
    first_refused c.args.protocol.now c.args.protocol.now c.args.budget (g.F.Finder.list c.args.finder.now) c.as_slice-shown.result.now c.in_ok-list.list c.args.event.now c.requires.empty c.as_slice-shown.ensures
    c.in_ok-list.ensures.value c.in_default.is g.M.PreImages.pieces g.M.PreImages.one_list c.in-Err.fault c.in-Err.ensures.fault

pub commit-requires-clause-may : goal.commit-requires-clause-may
commit-requires-clause-may g c =
    let p = c.args.protocol.now in
    may_roots p (g.F.Finder.list c.given.new.finder) c.in_ok-list.list c.in-Ok.picks c.as_slice.result.now c.as_slice.ensures c.in_ok-list.ensures.value
    (given_roots p p c.args.budget (g.F.Finder.list c.args.finder.now) c.as_slice-shown.result.now c.in_ok-list.list c.args.event.now c.requires.empty c.as_slice-shown.ensures
    c.in_ok-list.ensures.value c.in_default.is c.in-Ok.picks c.in-Ok.ensures.given)

pub returns-clause-legal : goal.returns-clause-legal
returns-clause-legal g c =
    let committed = c.in_ok-committed.committed in
    first_admitted c.args.protocol.now c.in_ok-protocol_copy.protocol_copy c.args.budget (g.F.Finder.list c.args.finder.now) c.as_slice-shown.result.now c.in_ok-list.list c.args.event.now c.requires.empty
    c.as_slice-shown.ensures c.in_ok-list.ensures.value c.in_default.is c.as_slice.result.now c.in-Ok.picks committed.links committed.mark c.new-nodes.result.items c.commit.new.nodes.items c.new-events.result.items
    c.commit.new.events.items c.in_ok-protocol_copy.ensures c.as_slice.ensures c.new-nodes.ensures.items c.new-events.ensures.items c.in-Ok.ensures.given c.in_ok-committed.ensures.committed g.M.PreImages.pieces

pub invariant_of-result : goal.invariant_of-result
invariant_of-result g c =
    let committed = c.in_ok-committed.committed in
    let leads = first_admitted c.args.protocol.now c.in_ok-protocol_copy.protocol_copy c.args.budget (g.F.Finder.list c.args.finder.now) c.as_slice-shown.result.now c.in_ok-list.list c.args.event.now c.requires.empty
    c.as_slice-shown.ensures c.in_ok-list.ensures.value c.in_default.is c.as_slice.result.now c.in-Ok.picks committed.links committed.mark c.new-nodes.result.items c.commit.new.nodes.items c.new-events.result.items
    c.commit.new.events.items c.in_ok-protocol_copy.ensures c.as_slice.ensures c.new-nodes.ensures.items c.new-events.ensures.items c.in-Ok.ensures.given c.in_ok-committed.ensures.committed g.M.PreImages.pieces in
    record {
      legal = legal_first g.M.PreImages.pieces c.args.protocol.now c.args.budget c.args.event.now _ leads;
      inside = subst (λ ns. c.next_from-next.result ≤ length ns) c.as_slice-2.ensures.value c.next_from-next.ensures.inside;
      none = subst (λ ns. NoneOpenBefore c.args.budget ns c.next_from-next.result) c.as_slice-2.ensures.value c.next_from-next.ensures.before;
    }
