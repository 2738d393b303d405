use Rattle.std.proofs.Common.{◌≡◌, ◌+◌, ◌-◌, length, get_or, sym, ap, ◌∙◌, subst, arith}
use Rattle.pieces.specs.Jobs.{IsExpandable}
use Rattle.trace_laws.specs.declared.chain.Link.{Link}
use Rattle.trace_laws.specs.Standing.{standing}
use Rattle.trace_laws.specs.Along.{EndsAt, StepsAlong}
use Rattle.trace_build.specs.declared.walking.Walked.{Walked}
use Rattle.trace_build.specs.First.{first_places}
use Rattle.trace_build.proofs.Both.{both_ok}
use Rattle.trace_build.proofs.WalkLemmas.{first_fits, expandable, walk_ends}
use Rattle.trace_build.proofs.walking.walk.Goals as goal

pub own_processes-processes-requires : goal.own_processes-processes-requires
own_processes-processes-requires c = (first_fits c.args.protocol.now c.args.chain.now c.index-chain-0.result c.requires.chain).narrow

pub link_step-requires-clause-fit : goal.link_step-requires-clause-fit
link_step-requires-clause-fit c =
    let within = c.loop-at-test.true in
    subst (λ (x : Link). IsExpandable c.args.protocol.now x.cube) c.index-chain-at-in-loop-at.is
    (expandable c.args.protocol.now c.args.state.now c.args.chain.now c.loop-at.at c.loop-at.processes.items c.loop-at.steps c.loop-at.invariant.walks c.index-chain-at.result c.index-chain-at.is (omega arith)
    c.index-chain-at-in-loop-at.result c.index-chain-at-in-loop-at.is)

pub returns-clause-along : goal.returns-clause-along
returns-clause-along c =
    let p = c.args.protocol.now in
    let s = c.args.state.now in
    let chain = c.args.chain.now in
    let link = c.index-chain-chain.result in
    let walks = c.loop-at.invariant.walks in
    let inside = walks.inside in
    let past = c.loop-at-test.false in
    let at_end : length chain - 1 ≡ c.loop-at.at = omega arith in
    let last : c.loop-at.at + 1 ≡ length chain = omega arith in
    both_ok (λ (w : Walked). w.steps ≡ c.loop-at.steps) (λ (w : Walked). EndsAt link.origin (standing link.places c.as_slice-2.result.now) w.goal w.places)
    (λ (w : Walked). StepsAlong p s chain (first_places chain) w.steps w.goal w.places)
    (λ w same ends.
    subst (λ es. StepsAlong p s chain (first_places chain) es w.goal w.places) (sym same)
    (walk_ends p s chain c.loop-at.at c.loop-at.processes.items c.loop-at.steps walks link (c.index-chain-chain.is ∙ ap (λ n. get_or chain n link) at_end) last w.goal w.places
    (subst (λ ps. EndsAt link.origin (standing link.places ps) w.goal w.places) c.as_slice-2.ensures.value ends)))
    c.ended.result c.ended.ensures.steps c.ended.ensures.ends
