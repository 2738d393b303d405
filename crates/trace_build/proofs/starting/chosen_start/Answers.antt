use Rattle.std.proofs.Common.{arith, ◌≤◌}
use Rattle.cub_proto.specs.Legal.{IsStart}
use Rattle.cub_proto.specs.Meets.{Satisfies}
use Rattle.theory_laws.specs.Built.{own_places}
use Rattle.theory_laws.specs.Chosen.{IsChosenState}
use Rattle.theory_laws.specs.Small.{HasSmallIntegers}
use Rattle.theory_laws.specs.Start.{start_width, with_start_literals}
use Rattle.trace_build.proofs.Finding.{found_at}
use Rattle.trace_build.proofs.StartLemmas.{fitting, own_satisfy, few_processes, fits_start}
use Rattle.trace_build.proofs.starting.chosen_start.Goals as goal

pub start_state-requires-clause-fitting : goal.start_state-requires-clause-fitting
start_state-requires-clause-fitting c = fitting c.args.protocol.now c.args.cube.now c.requires.fit

pub returns-clause-satisfied : goal.returns-clause-satisfied
returns-clause-satisfied c =
    own_satisfy c.args.protocol.now c.in-Some.state c.args.cube.now.width c.args.cube.now.lits c.requires.fit.fits
    (found_at (λ s. Satisfies s (own_places (start_width c.args.cube.now.width)) (start_width c.args.cube.now.width) c.args.cube.now.lits)
    c.start_state.result c.in_ok-state.field-0 c.in-Some.state c.in_ok-state.was c.in-Some.is c.start_state.ensures.satisfied)

pub returns-clause-few : goal.returns-clause-few
returns-clause-few c =
    let narrow = c.requires.fit.narrow in
    let wide : start_width c.args.cube.now.width ≤ 11 = omega arith in
    few_processes c.args.protocol.now (start_width c.args.cube.now.width) (with_start_literals c.args.protocol.now c.args.cube.now.width c.args.cube.now.lits) c.in-Some.state wide
    (found_at (IsChosenState c.args.protocol.now (start_width c.args.cube.now.width) (with_start_literals c.args.protocol.now c.args.cube.now.width c.args.cube.now.lits))
    c.start_state.result c.in_ok-state.field-0 c.in-Some.state c.in_ok-state.was c.in-Some.is c.start_state.ensures.chosen)

pub returns-clause-fits : goal.returns-clause-fits
returns-clause-fits c =
    fits_start c.args.protocol.now c.in-Some.state
    (found_at (IsStart c.args.protocol.now) c.start_state.result c.in_ok-state.field-0 c.in-Some.state c.in_ok-state.was c.in-Some.is c.start_state.ensures.start)
    (found_at HasSmallIntegers c.start_state.result c.in_ok-state.field-0 c.in-Some.state c.in_ok-state.was c.in-Some.is c.start_state.ensures.small)
