use Rattle.std.proofs.Common.{◌+◌, ◌≤◌, length, get_or, sym, ap, ◌∙◌, subst}
use Rattle.cub_proto.specs.Configuration.{process_count}
use Rattle.cub_proto.specs.Meets.{Satisfies}
use Rattle.cub_cube.specs.Starts.{IsStartCube}
use Rattle.log_form.specs.Pieces.{IsFit, widest, greatest_expanded}
use Rattle.replay.specs.Bound.{most_events}
use Rattle.theory_laws.specs.Built.{own_places}
use Rattle.trace_laws.specs.Blocked.{with_crashes}
use Rattle.trace_laws.specs.Along.{StepsAlong}
use Rattle.trace_laws.specs.Leads.{LeadsTo, first_blocked}
use Rattle.trace_build.specs.First.{IsChosenStart, first_places}
use Rattle.trace_build.proofs.BuildLemmas.{leads_there, few_enough, trace_is}
use Rattle.trace_build.proofs.WalkLemmas.{first_fits, first_meets}
use Rattle.trace_build.proofs.building.build_chain.Goals as goal

pub chosen_start-requires-clause-fit : goal.chosen_start-requires-clause-fit
chosen_start-requires-clause-fit c =
    subst (λ xs. IsFit c.args.protocol.now widest greatest_expanded (get_or xs 0 c.index-as_slice-0.result).cube) (sym c.as_slice.ensures)
    (first_fits c.args.protocol.now c.args.chain.now c.index-as_slice-0.result c.requires)

pub chosen_start-requires-clause-meets : goal.chosen_start-requires-clause-meets
chosen_start-requires-clause-meets c =
    subst (λ xs. IsStartCube c.args.protocol.now (get_or xs 0 c.index-as_slice-0.result).cube) (sym c.as_slice.ensures)
    (first_meets c.args.protocol.now c.args.chain.now c.index-as_slice-0.result c.requires)

pub with_crashes-requires-clause-leads : goal.with_crashes-requires-clause-leads
with_crashes-requires-clause-leads c =
    let p = c.args.protocol.now in
    let s = c.in_ok-start.start in
    let d = c.index-as_slice-0.result in
    let w = c.in_ok-walk.walk in
    let sat = subst (λ xs. Satisfies s (own_places (get_or xs 0 d).cube.width) (get_or xs 0 d).cube.width (get_or xs 0 d).cube.lits) c.as_slice.ensures c.in_ok-start.ensures.satisfied in
    let along = subst (λ xs. StepsAlong p s xs (first_places xs) w.steps w.goal w.places) c.as_slice-2.ensures c.in_ok-walk.ensures.along in
    subst (λ z. LeadsTo p z w.steps w.goal c.as_slice-3.result.now) (sym c.in_ok-twin.ensures)
    (subst (λ xs. LeadsTo p s w.steps w.goal xs) (sym c.as_slice-3.ensures)
    (leads_there p c.args.chain.now c.requires s d c.in_ok-start.ensures.start sat w.steps w.goal w.places along c.in_ok-start.ensures.few))

pub with_crashes-requires-clause-few : goal.with_crashes-requires-clause-few
with_crashes-requires-clause-few c =
    let p = c.args.protocol.now in
    let s = c.in_ok-start.start in
    let d = c.index-as_slice-0.result in
    let w = c.in_ok-walk.walk in
    let sat = subst (λ xs. Satisfies s (own_places (get_or xs 0 d).cube.width) (get_or xs 0 d).cube.width (get_or xs 0 d).cube.lits) c.as_slice.ensures c.in_ok-start.ensures.satisfied in
    let along = subst (λ xs. StepsAlong p s xs (first_places xs) w.steps w.goal w.places) c.as_slice-2.ensures c.in_ok-walk.ensures.along in
    subst (λ z. length w.steps + process_count z ≤ most_events) (sym c.in_ok-twin.ensures)
    (few_enough p c.args.chain.now c.requires s d c.in_ok-start.ensures.start sat w.steps w.goal w.places along c.in_ok-start.ensures.few)

pub returns : goal.returns
returns c =
    let p = c.args.protocol.now in
    let s = c.in_ok-start.start in
    let d = c.index-as_slice-0.result in
    let w = c.in_ok-walk.walk in
    let sat = subst (λ xs. Satisfies s (own_places (get_or xs 0 d).cube.width) (get_or xs 0 d).cube.width (get_or xs 0 d).cube.lits) c.as_slice.ensures c.in_ok-start.ensures.satisfied in
    let along = subst (λ xs. StepsAlong p s xs (first_places xs) w.steps w.goal w.places) c.as_slice-2.ensures c.in_ok-walk.ensures.along in
    let chosen = subst (λ xs. IsChosenStart p (get_or xs 0 d).cube s) c.as_slice.ensures c.in_ok-start.ensures.chosen in
    trace_is p c.args.chain.now c.requires s d c.in_ok-start.ensures.start sat w.steps w.goal w.places along c.in_ok-start.ensures.few chosen c.in_ok-start.ensures.small c.in_ok-start.ensures.fits
    c.in_ok-freed.freed.events c.in_ok-freed.freed.plain
    (c.in_ok-freed.ensures.events ∙ ap (λ z. with_crashes p z w.steps) c.in_ok-twin.ensures)
    (c.in_ok-freed.ensures.plain ∙ ap (λ z. first_blocked p z w.steps 0) c.in_ok-twin.ensures)
