use Rattle.std.proofs.Common.{◌≡◌, ◌-◌, ◌<◌, ◌≤◌, length, sym, ap, subst, ◌∙◌, arith}
use Rattle.std.specs.Prelude.{Some, None}
use Rattle.log_form.specs.declared.node.Node.{Node}
use Rattle.log_form.specs.Log.{node_at}
use Rattle.log_form.specs.Later.{GoesOn}
use Rattle.log_form.specs.Pieces.{IsFit, widest_expanded, greatest_expanded}
use Rattle.log_form.proofs.Weave.{legal_woven}
use Rattle.cube_core.specs.Refusal.{refusal}
use Rattle.cube_core.specs.Waiting.{NoneOpenBefore}
use Rattle.cube_core.proofs.FirstLemmas.{log_of}
use Rattle.cube_core.proofs.KeepLemmas.{few_nodes, none_open}
use Rattle.cube_core.proofs.AnswerLemmas.{not_refused}
use Rattle.cube_core.proofs.ApplyLemmas.{at_index, node_expandable}
use Rattle.cube_core.proofs.NodeLemmas.{node_refused, node_leads_on, node_legal, node_later}
use Rattle.cube_core.proofs.log.Log.admit.Goals as goal

pub overflow_cast-room : goal.overflow_cast-room
overflow_cast-room g c =
    let few = few_nodes g.M.PreImages.pieces _ c.self.invariant.legal in
    let len : c.len.result ≡ c.self.inside.nodes.len = c.len.ensures in
    let counted = c.self.inside.nodes.ok.0 in
    omega arith

pub overflow_sub-room : goal.overflow_sub-room
overflow_sub-room g c =
    let few = (legal_woven g.M.PreImages.pieces _ c.self.invariant.legal).few in
    let len : c.len.result ≡ c.self.inside.nodes.len = c.len.ensures in
    let counted = c.self.inside.nodes.ok.0 in
    omega arith

pub given_of_node-requires-clause-fit : goal.given_of_node-requires-clause-fit
given_of_node-requires-clause-fit g c =
    let m = g.M.PreImages in
    let inside = c.self.inside in
    let nodes = inside.nodes.items in
    let number = c.in-Some.number in
    let log = log_of inside.protocol inside.budget nodes inside.events.items inside.mark in
    let (its, below, free) = subst (λ ns. (c.args.event.now.node ≡ Some number) × (number < length ns) × (refusal inside.mark inside.budget (node_at ns number) ≡ None)) c.as_slice.ensures.value c.in-Some.ensures.some in
    subst (λ (x : Node). IsFit c.args.protocol.now widest_expanded greatest_expanded x.cube) (sym (at_index nodes number c.index.result.now below c.index.ensures))
    (subst (λ p. IsFit p widest_expanded greatest_expanded (node_at nodes number).cube) (ap (λ l. l.protocol) c.self.view_is ∙ sym c.requires.protocol)
    (node_expandable m.pieces m.possible m.fit log number c.self.invariant.legal below (not_refused inside.mark inside.budget (node_at nodes number) free)))

pub returns-in-Err-clause-fault : goal.returns-in-Err-clause-fault
returns-in-Err-clause-fault g c =
    let inside = c.self.inside in
    let nodes = inside.nodes.items in
    let number = c.in-Some.number in
    let (its, below, free) = subst (λ ns. (c.args.event.now.node ≡ Some number) × (number < length ns) × (refusal inside.mark inside.budget (node_at ns number) ≡ None)) c.as_slice.ensures.value c.in-Some.ensures.some in
    let counted : c.len.result ≡ length nodes = c.len.ensures ∙ inside.nodes.ok.0 in
    node_refused g.M.PreImages.pieces c.args.protocol.now inside.protocol inside.budget nodes inside.events.items inside.mark c.args.self.now c.args.event.now number c.index.result.now
    (g.F.Finder.list c.args.finder.now) (inside.budget.cubes - c.len.result) c.self.view_is c.requires.protocol c.self.invariant.legal its below free (at_index nodes number c.index.result.now below c.index.ensures)
    c.requires.cubes (ap (λ n. inside.budget.cubes - n) counted) g.M.PreImages.one_list c.in-Err.fault c.in-Err.ensures.fault

pub commit-requires-clause-few : goal.commit-requires-clause-few
commit-requires-clause-few g c = (legal_woven g.M.PreImages.pieces _ c.self.invariant.legal).few

pub next_from-self-inside-requires : goal.next_from-self-inside-requires
next_from-self-inside-requires g c =
    let inside = c.self.inside in
    let nodes = inside.nodes.items in
    let number = c.in-Some.number in
    let (its, below, free) = subst (λ ns. (c.args.event.now.node ≡ Some number) × (number < length ns) × (refusal inside.mark inside.budget (node_at ns number) ≡ None)) c.as_slice.ensures.value c.in-Some.ensures.some in
    let counted : c.len.result ≡ length nodes = c.len.ensures ∙ inside.nodes.ok.0 in
    let committed = c.in_ok-committed.committed in
    let log = log_of inside.protocol inside.budget nodes inside.events.items inside.mark in
    let after = log_of inside.protocol inside.budget c.commit.new.nodes.items c.commit.new.events.items committed.mark in
    let legal = node_legal g.M.PreImages.pieces c.args.protocol.now inside.protocol inside.budget nodes inside.events.items inside.mark c.args.self.now c.args.event.now number c.index.result.now
    (g.F.Finder.list c.args.finder.now) (inside.budget.cubes - c.len.result) c.self.view_is c.requires.protocol c.self.invariant.legal its below free (at_index nodes number c.index.result.now below c.index.ensures)
    c.requires.cubes (ap (λ n. inside.budget.cubes - n) counted) c.in-Ok.picks c.as_slice-2.result.now c.count-seen.result committed.links committed.mark c.commit.new.nodes.items c.commit.new.events.items
    c.in-Ok.ensures.given c.as_slice-2.ensures (g.F.Finder.list c.given_of_node.new.finder) c.given_of_node.ensures.same c.count-seen.ensures c.in_ok-committed.ensures.committed in
    let later = node_later g.M.PreImages.pieces c.args.protocol.now inside.protocol inside.budget nodes inside.events.items inside.mark c.args.self.now c.args.event.now number c.index.result.now
    (g.F.Finder.list c.args.finder.now) (inside.budget.cubes - c.len.result) c.self.view_is c.requires.protocol c.self.invariant.legal its below free (at_index nodes number c.index.result.now below c.index.ensures)
    c.requires.cubes (ap (λ n. inside.budget.cubes - n) counted) c.in-Ok.picks c.as_slice-2.result.now c.count-seen.result committed.links committed.mark c.commit.new.nodes.items c.commit.new.events.items
    c.in-Ok.ensures.given c.as_slice-2.ensures (g.F.Finder.list c.given_of_node.new.finder) c.given_of_node.ensures.same c.count-seen.ensures c.in_ok-committed.ensures.committed in
    subst (λ ns. NoneOpenBefore inside.budget ns inside.next) (sym c.as_slice-3.ensures.value)
    (none_open g.M.PreImages.pieces log after inside.next c.self.invariant.legal legal (subst (λ l. GoesOn l after) (sym c.self.view_is) later) c.self.invariant.inside c.self.invariant.none)

pub invariant_of-self-2 : goal.invariant_of-self-2
invariant_of-self-2 g c =
    let inside = c.self.inside in
    let nodes = inside.nodes.items in
    let number = c.in-Some.number in
    let (its, below, free) = subst (λ ns. (c.args.event.now.node ≡ Some number) × (number < length ns) × (refusal inside.mark inside.budget (node_at ns number) ≡ None)) c.as_slice.ensures.value c.in-Some.ensures.some in
    let counted : c.len.result ≡ length nodes = c.len.ensures ∙ inside.nodes.ok.0 in
    let committed = c.in_ok-committed.committed in
    record {
      legal = node_legal g.M.PreImages.pieces c.args.protocol.now inside.protocol inside.budget nodes inside.events.items inside.mark c.args.self.now c.args.event.now number c.index.result.now
          (g.F.Finder.list c.args.finder.now) (inside.budget.cubes - c.len.result) c.self.view_is c.requires.protocol c.self.invariant.legal its below free (at_index nodes number c.index.result.now below c.index.ensures)
          c.requires.cubes (ap (λ n. inside.budget.cubes - n) counted) c.in-Ok.picks c.as_slice-2.result.now c.count-seen.result committed.links committed.mark c.commit.new.nodes.items c.commit.new.events.items
          c.in-Ok.ensures.given c.as_slice-2.ensures (g.F.Finder.list c.given_of_node.new.finder) c.given_of_node.ensures.same c.count-seen.ensures c.in_ok-committed.ensures.committed;
      inside = subst (λ ns. c.next_from-self-inside.result ≤ length ns) c.as_slice-3.ensures.value c.next_from-self-inside.ensures.inside;
      none = subst (λ ns. NoneOpenBefore inside.budget ns c.next_from-self-inside.result) c.as_slice-3.ensures.value c.next_from-self-inside.ensures.before;
    }

pub returns-clause-legal : goal.returns-clause-legal
returns-clause-legal g c =
    let inside = c.self.inside in
    let nodes = inside.nodes.items in
    let number = c.in-Some.number in
    let (its, below, free) = subst (λ ns. (c.args.event.now.node ≡ Some number) × (number < length ns) × (refusal inside.mark inside.budget (node_at ns number) ≡ None)) c.as_slice.ensures.value c.in-Some.ensures.some in
    let counted : c.len.result ≡ length nodes = c.len.ensures ∙ inside.nodes.ok.0 in
    let committed = c.in_ok-committed.committed in
    node_leads_on g.M.PreImages.pieces c.args.protocol.now inside.protocol inside.budget nodes inside.events.items inside.mark c.args.self.now c.args.event.now number c.index.result.now
    (g.F.Finder.list c.args.finder.now) (inside.budget.cubes - c.len.result) c.self.view_is c.requires.protocol c.self.invariant.legal its below free (at_index nodes number c.index.result.now below c.index.ensures)
    c.requires.cubes (ap (λ n. inside.budget.cubes - n) counted) c.in-Ok.picks c.as_slice-2.result.now c.count-seen.result committed.links committed.mark c.commit.new.nodes.items c.commit.new.events.items
    c.in-Ok.ensures.given c.as_slice-2.ensures (g.F.Finder.list c.given_of_node.new.finder) c.given_of_node.ensures.same c.count-seen.ensures c.in_ok-committed.ensures.committed
