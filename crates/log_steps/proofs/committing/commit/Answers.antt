use Rattle.std.proofs.Common.{◌≡◌, ◌++◌, ◌∷◌, [], length, drop, map, subst, arith}
use Rattle.log_form.specs.Log.{new_nodes}
use Rattle.log_form.specs.Stale.{KeepsUncovered}
use Rattle.log_steps.specs.Judged.{added_of}
use Rattle.log_steps.specs.Commits.{kept_of, IsLinkedUp}
use Rattle.log_steps.proofs.CommitLemmas.{event_of, committed_grown}
use Rattle.log_steps.proofs.committing.commit.Goals as goal

pub returns-clause-committed : goal.returns-clause-committed
returns-clause-committed g c =
    let p = c.args.protocol.now in
    let nodes = c.args.nodes.now.items in
    let events = c.args.events.now.items in
    let node = c.args.node in
    let picks = c.args.picks.now in
    let which = c.in_ok-which.which in
    let grown = c.in_ok-grown.grown in
    let room = c.if-room-len.false in
    let counted = c.args.nodes.now.ok.0 in
    let len : c.len.result ≡ c.args.nodes.now.len = c.len.ensures in
    let few = c.requires.few in
    let len2 = c.len-2.ensures in
    committed_grown p c.args.budget nodes events node picks which c.args.seen grown.links grown.mark c.grow.new.nodes.items c.grow.new.events.items
    (omega arith) (subst (λ cs. KeepsUncovered p (drop c.args.seen cs) (map added_of picks) (kept_of picks which)) c.requires.cubes c.in_ok-which.ensures.kept)
    (subst (λ ks. c.grow.new.events.items ≡ events ++ event_of node (kept_of picks ks) ∷ []) c.as_slice.ensures c.in_ok-grown.ensures.events)
    (subst (λ ks. IsLinkedUp p (length nodes) node (kept_of picks ks) (nodes ++ new_nodes node (kept_of picks ks)) c.grow.new.nodes.items grown.mark grown.links) c.as_slice.ensures c.in_ok-grown.ensures.grown)
