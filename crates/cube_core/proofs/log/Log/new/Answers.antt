use Rattle.std.proofs.Common.{◌≤◌, subst, length}
use Rattle.log_steps.specs.Judged.{ArePicks}
use Rattle.cube_core.specs.Waiting.{NoneOpenBefore}
use Rattle.cube_core.proofs.KeepLemmas.{first_legal}
use Rattle.cube_core.proofs.LeadLemmas.{may_roots}
use Rattle.cube_core.proofs.FirstLemmas.{first_leads, first_chosen}
use Rattle.cube_core.proofs.log.Log.new.Goals as goal

pub commit-requires-clause-may : goal.commit-requires-clause-may
commit-requires-clause-may g c =
    let p = c.args.protocol.now in
    let picks = c.in_ok-picks.picks in
    may_roots p (g.F.Finder.list c.judge_list.new.finder) c.in_ok-list.list picks c.as_slice-2.result.now c.as_slice-2.ensures c.in_ok-list.ensures.value
    (subst (λ cs. ArePicks p cs c.in_ok-list.list picks) c.requires.empty (subst (λ xs. ArePicks p (g.F.Finder.list c.args.finder.now) xs picks) c.as_slice.ensures c.in_ok-picks.ensures.value))

pub returns-clause-roots : goal.returns-clause-roots
returns-clause-roots g c =
    let committed = c.in_ok-committed.committed in
    first_leads c.args.protocol.now c.in_ok-protocol_copy.protocol_copy c.args.budget (g.F.Finder.list c.args.finder.now) c.as_slice.result.now c.in_ok-list.list c.as_slice-2.result.now c.in_ok-picks.picks
    committed.links committed.mark c.new-nodes.result.items c.commit.new.nodes.items c.new-events.result.items c.commit.new.events.items c.in_ok-protocol_copy.ensures c.requires.empty c.as_slice.ensures
    c.as_slice-2.ensures c.new-nodes.ensures.items c.new-events.ensures.items c.in_ok-list.ensures.value c.in_ok-picks.ensures.value c.in_ok-committed.ensures.committed g.M.PreImages.pieces

pub returns-clause-chosen : goal.returns-clause-chosen
returns-clause-chosen g c =
    let committed = c.in_ok-committed.committed in
    first_chosen c.args.protocol.now c.in_ok-protocol_copy.protocol_copy c.args.budget (g.F.Finder.list c.args.finder.now) c.as_slice.result.now c.in_ok-list.list c.as_slice-2.result.now c.in_ok-picks.picks
    committed.links committed.mark c.new-nodes.result.items c.commit.new.nodes.items c.new-events.result.items c.commit.new.events.items c.in_ok-protocol_copy.ensures c.requires.empty c.as_slice.ensures
    c.as_slice-2.ensures c.new-nodes.ensures.items c.new-events.ensures.items c.in_ok-list.ensures.value c.in_ok-picks.ensures.value c.in_ok-committed.ensures.committed g.S.Decisions.chosen g.M.PreImages.pieces
    c.in_ok-picks.ensures.chosen

pub invariant_of-result : goal.invariant_of-result
invariant_of-result g c =
    let committed = c.in_ok-committed.committed in
    let leads = first_leads c.args.protocol.now c.in_ok-protocol_copy.protocol_copy c.args.budget (g.F.Finder.list c.args.finder.now) c.as_slice.result.now c.in_ok-list.list c.as_slice-2.result.now c.in_ok-picks.picks
    committed.links committed.mark c.new-nodes.result.items c.commit.new.nodes.items c.new-events.result.items c.commit.new.events.items c.in_ok-protocol_copy.ensures c.requires.empty c.as_slice.ensures
    c.as_slice-2.ensures c.new-nodes.ensures.items c.new-events.ensures.items c.in_ok-list.ensures.value c.in_ok-picks.ensures.value c.in_ok-committed.ensures.committed g.M.PreImages.pieces in
    record {
      legal = first_legal g.M.PreImages.pieces c.args.protocol.now c.args.budget _ leads;
      inside = subst (λ ns. c.next_from-next.result ≤ length ns) c.as_slice-3.ensures.value c.next_from-next.ensures.inside;
      none = subst (λ ns. NoneOpenBefore c.args.budget ns c.next_from-next.result) c.as_slice-3.ensures.value c.next_from-next.ensures.before;
    }
