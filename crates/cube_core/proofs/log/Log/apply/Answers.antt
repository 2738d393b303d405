use Rattle.std.proofs.Common.{◌≡◌, ◌≤◌, length, sym, ap, subst, ◌∙◌}
use Rattle.std.specs.Prelude.{Some, None}
use Rattle.log_form.specs.Log.{node_at}
use Rattle.log_form.specs.Later.{GoesOn}
use Rattle.log_form.proofs.Weave.{legal_woven}
use Rattle.cube_core.specs.Refusal.{refusal}
use Rattle.cube_core.specs.Answers.{Answers}
use Rattle.cube_core.specs.Waiting.{NoneOpenBefore}
use Rattle.cube_core.proofs.FirstLemmas.{log_of}
use Rattle.cube_core.proofs.AnswerLemmas.{refused_so}
use Rattle.cube_core.proofs.KeepLemmas.{none_open, stays}
use Rattle.log_steps.specs.Commits.{MayCommit}
use Rattle.log_steps.proofs.CommitLemmas.{finder_count}
use Rattle.cube_core.proofs.ApplyLemmas.{applied, may_apply}
use Rattle.cube_core.proofs.log.Log.apply.Goals as goal

pub returns-in-Some-clause-answer : goal.returns-in-Some-clause-answer
returns-in-Some-clause-answer g c =
    let inside = c.self.inside in
    let log = log_of inside.protocol inside.budget inside.nodes.items inside.events.items inside.mark in
    subst (λ l. Answers g.M.PreImages.pieces l c.args.verdict.node c.in-Some.outcome l) c.self.view_is
    (refused_so g.M.PreImages.pieces log c.args.verdict.node c.in-Some.outcome
    (subst (λ ns. refusal inside.mark inside.budget (node_at ns c.args.verdict.node) ≡ Some c.in-Some.outcome) c.as_slice.ensures.value (sym c.refused.ensures ∙ c.in-Some.is)))

pub commit-requires-clause-few : goal.commit-requires-clause-few
commit-requires-clause-few g c = (legal_woven g.M.PreImages.pieces _ c.self.invariant.legal).few

pub commit-requires-clause-may : goal.commit-requires-clause-may
commit-requires-clause-may g c =
    let now = c.args.self.now in
    let verdict = c.args.verdict in
    subst (λ p. MayCommit p (g.F.Finder.list c.args.finder.now) (Some verdict.node) c.as_slice-2.result.now verdict.seen) (sym c.requires.protocol)
    (may_apply g.S.Decisions.chosen g.M.PreImages.pieces now verdict c.requires.judged (g.F.Finder.list c.args.finder.now) c.as_slice-2.result.now c.requires.cubes c.as_slice-2.ensures)

pub next_from-self-inside-requires : goal.next_from-self-inside-requires
next_from-self-inside-requires g c =
    let C = g.S.Decisions.chosen in
    let P = g.M.PreImages.pieces in
    let inside = c.self.inside in
    let nodes = inside.nodes.items in
    let verdict = c.args.verdict in
    let log = log_of inside.protocol inside.budget nodes inside.events.items inside.mark in
    let free : refusal inside.mark inside.budget (node_at nodes verdict.node) ≡ None =
    subst (λ ns. refusal inside.mark inside.budget (node_at ns verdict.node) ≡ None) c.as_slice.ensures.value (sym c.refused.ensures ∙ c.in_default.is) in
    let so = applied C P c.args.protocol.now inside.protocol inside.budget nodes c.commit.new.nodes.items inside.events.items c.commit.new.events.items inside.mark c.in-Ok.committed.mark c.args.self.now
    verdict c.as_slice-2.result.now c.in-Ok.committed.links c.self.view_is c.requires.protocol c.self.invariant.legal c.requires.judged free c.as_slice-2.ensures c.in-Ok.ensures.committed 0 0 in
    subst (λ ns. NoneOpenBefore inside.budget ns inside.next) (sym c.as_slice-in-Ok.ensures.value)
    (none_open P log (log_of inside.protocol inside.budget c.commit.new.nodes.items c.commit.new.events.items c.in-Ok.committed.mark) inside.next c.self.invariant.legal so.legal
    (subst (λ l. GoesOn l (log_of inside.protocol inside.budget c.commit.new.nodes.items c.commit.new.events.items c.in-Ok.committed.mark)) (sym c.self.view_is) so.later) c.self.invariant.inside c.self.invariant.none)

pub invariant_of-self : goal.invariant_of-self
invariant_of-self g c =
    let C = g.S.Decisions.chosen in
    let P = g.M.PreImages.pieces in
    let inside = c.self.inside in
    let nodes = inside.nodes.items in
    let verdict = c.args.verdict in
    let free : refusal inside.mark inside.budget (node_at nodes verdict.node) ≡ None =
    subst (λ ns. refusal inside.mark inside.budget (node_at ns verdict.node) ≡ None) c.as_slice.ensures.value (sym c.refused.ensures ∙ c.in_default.is) in
    let so = applied C P c.args.protocol.now inside.protocol inside.budget nodes c.commit.new.nodes.items inside.events.items c.commit.new.events.items inside.mark c.in-Ok.committed.mark c.args.self.now
    verdict c.as_slice-2.result.now c.in-Ok.committed.links c.self.view_is c.requires.protocol c.self.invariant.legal c.requires.judged free c.as_slice-2.ensures c.in-Ok.ensures.committed 0 0 in
    record {
      legal = so.legal;
      inside = subst (λ ns. c.next_from-self-inside.result ≤ length ns) c.as_slice-in-Ok.ensures.value c.next_from-self-inside.ensures.inside;
      none = subst (λ ns. NoneOpenBefore inside.budget ns c.next_from-self-inside.result) c.as_slice-in-Ok.ensures.value c.next_from-self-inside.ensures.before;
    }

pub returns-in-Ok-clause-answer : goal.returns-in-Ok-clause-answer
returns-in-Ok-clause-answer g c =
    let C = g.S.Decisions.chosen in
    let P = g.M.PreImages.pieces in
    let inside = c.self.inside in
    let nodes = inside.nodes.items in
    let verdict = c.args.verdict in
    let free : refusal inside.mark inside.budget (node_at nodes verdict.node) ≡ None =
    subst (λ ns. refusal inside.mark inside.budget (node_at ns verdict.node) ≡ None) c.as_slice.ensures.value (sym c.refused.ensures ∙ c.in_default.is) in
    let so = applied C P c.args.protocol.now inside.protocol inside.budget nodes c.commit.new.nodes.items inside.events.items c.commit.new.events.items inside.mark c.in-Ok.committed.mark c.args.self.now
    verdict c.as_slice-2.result.now c.in-Ok.committed.links c.self.view_is c.requires.protocol c.self.invariant.legal c.requires.judged free c.as_slice-2.ensures c.in-Ok.ensures.committed
    c.count-first.result c.count-count.result in
    let after = log_of inside.protocol inside.budget c.commit.new.nodes.items c.commit.new.events.items c.in-Ok.committed.mark in
    subst (λ o. Answers P c.args.self.now verdict.node o after) (sym c.outcome_of.ensures)
    (so.answer (finder_count (g.F.Finder.list c.args.finder.now) c.args.self.now.nodes c.count-first.result c.count-first.ensures c.requires.cubes)
    (finder_count (g.F.Finder.list c.commit.new.finder) c.commit.new.nodes.items c.count-count.result c.count-count.ensures c.in-Ok.ensures.cubes))

pub returns-in-Ok-clause-chosen : goal.returns-in-Ok-clause-chosen
returns-in-Ok-clause-chosen g c =
    let C = g.S.Decisions.chosen in
    let P = g.M.PreImages.pieces in
    let inside = c.self.inside in
    let nodes = inside.nodes.items in
    let verdict = c.args.verdict in
    let free : refusal inside.mark inside.budget (node_at nodes verdict.node) ≡ None =
    subst (λ ns. refusal inside.mark inside.budget (node_at ns verdict.node) ≡ None) c.as_slice.ensures.value (sym c.refused.ensures ∙ c.in_default.is) in
    (applied C P c.args.protocol.now inside.protocol inside.budget nodes c.commit.new.nodes.items inside.events.items c.commit.new.events.items inside.mark c.in-Ok.committed.mark c.args.self.now
    verdict c.as_slice-2.result.now c.in-Ok.committed.links c.self.view_is c.requires.protocol c.self.invariant.legal c.requires.judged free c.as_slice-2.ensures c.in-Ok.ensures.committed 0 0).chosen

pub returns-in-Ok-clause-later : goal.returns-in-Ok-clause-later
returns-in-Ok-clause-later g c =
    let C = g.S.Decisions.chosen in
    let P = g.M.PreImages.pieces in
    let inside = c.self.inside in
    let nodes = inside.nodes.items in
    let verdict = c.args.verdict in
    let free : refusal inside.mark inside.budget (node_at nodes verdict.node) ≡ None =
    subst (λ ns. refusal inside.mark inside.budget (node_at ns verdict.node) ≡ None) c.as_slice.ensures.value (sym c.refused.ensures ∙ c.in_default.is) in
    (applied C P c.args.protocol.now inside.protocol inside.budget nodes c.commit.new.nodes.items inside.events.items c.commit.new.events.items inside.mark c.in-Ok.committed.mark c.args.self.now
    verdict c.as_slice-2.result.now c.in-Ok.committed.links c.self.view_is c.requires.protocol c.self.invariant.legal c.requires.judged free c.as_slice-2.ensures c.in-Ok.ensures.committed 0 0).later

pub returns-in-Err-clause-later : goal.returns-in-Err-clause-later
returns-in-Err-clause-later g c =
    let inside = c.self.inside in
    stays (log_of inside.protocol inside.budget c.commit.new.nodes.items c.commit.new.events.items inside.mark) c.args.self.now
    (ap (λ ns. log_of inside.protocol inside.budget ns c.commit.new.events.items inside.mark) c.in-Err.ensures.same_nodes
    ∙ (ap (λ es. log_of inside.protocol inside.budget inside.nodes.items es inside.mark) c.in-Err.ensures.same_events ∙ c.self.view_is))
