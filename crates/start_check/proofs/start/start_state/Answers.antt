use Rattle.std.proofs.Common.{◌≡◌, true}
use Rattle.cub_proto.specs.Legal.{IsStart}
use Rattle.cub_proto.specs.Meets.{Satisfies}
use Rattle.theory_laws.specs.Built.{own_places}
use Rattle.theory_laws.specs.Chosen.{IsChosenState}
use Rattle.theory_laws.specs.Start.{has_start, start_width, with_start_literals}
use Rattle.theory_laws.proofs.Starting.{starts_are_consistent, chosen_starts}
use Rattle.start_check.proofs.Found.{both_found}
use Rattle.start_check.proofs.start.start_state.Goals as goal

pub returns-clause-none : goal.returns-clause-none
returns-clause-none c is meets = c.state_with_start.ensures.none is (starts_are_consistent c.args.protocol.now c.args.cube.now.width c.args.cube.now.lits c.requires.fitting meets)

pub returns-clause-start : goal.returns-clause-start
returns-clause-start c =
    both_found c.state_with_start.result (λ s. has_start c.args.protocol.now.start ≡ true)
    (IsChosenState c.args.protocol.now (start_width c.args.cube.now.width) (with_start_literals c.args.protocol.now c.args.cube.now.width c.args.cube.now.lits)) (IsStart c.args.protocol.now)
    (λ s has chosen. (chosen_starts c.args.protocol.now c.args.cube.now.width c.args.cube.now.lits s c.requires.fitting has chosen).0)
    c.state_with_start.ensures.some c.state_with_start.ensures.chosen

pub returns-clause-satisfied : goal.returns-clause-satisfied
returns-clause-satisfied c =
    both_found c.state_with_start.result (λ s. has_start c.args.protocol.now.start ≡ true)
    (IsChosenState c.args.protocol.now (start_width c.args.cube.now.width) (with_start_literals c.args.protocol.now c.args.cube.now.width c.args.cube.now.lits))
    (λ s. Satisfies s (own_places (start_width c.args.cube.now.width)) (start_width c.args.cube.now.width) c.args.cube.now.lits)
    (λ s has chosen. (chosen_starts c.args.protocol.now c.args.cube.now.width c.args.cube.now.lits s c.requires.fitting has chosen).2)
    c.state_with_start.ensures.some c.state_with_start.ensures.chosen
