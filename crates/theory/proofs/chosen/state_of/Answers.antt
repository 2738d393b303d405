use Rattle.std.proofs.Common.{◌≡◌, ◌++◌, [], List, Ok, None, sym, ap, ◌∙◌, subst, append-nil, Option, Some, Result}
use Rattle.std.specs.Prelude.{IfOk, IfSome}
use Rattle.cub_proto.specs.declared.literal.Lit.{Lit}
use Rattle.cub_proto.specs.StateOf.{signature_of}
use Rattle.cub_proto.specs.Configuration.{Configuration}
use Rattle.cub_cube.specs.Meaning.{IsConsistent}
use Rattle.theory_laws.specs.Fitting.{AreFitting}
use Rattle.theory_laws.specs.Solved.{Fulfils}
use Rattle.theory_laws.specs.Chosen.{IsChosenState}
use Rattle.theory_laws.proofs.Choosing.{chosen_fulfils}
use Rattle.theory.specs.Theory.{Theory}
use Rattle.theory.proofs.Parting.{none_fitting, on_found}
use Rattle.theory.proofs.chosen.state_of.Goals as goal
use Rattle.theory.proofs.chosen.state_of.Goals.{After-chosen_state}

whole : (c : After-chosen_state) → c.as_slice.result.now ++ [] ≡ c.args.cube.now.lits
whole c = append-nil c.as_slice.result.now ∙ c.as_slice.ensures

pub returns-clause-none : goal.returns-clause-none
returns-clause-none c is has =
    let d : After-chosen_state = (goal.at.returns-clause-none c).After-chosen_state in
    c.chosen_state.ensures.none is (subst (λ (xs : List Lit). IsConsistent c.args.protocol.now c.args.cube.now.width xs) (sym (whole d)) has)

pub returns-clause-chosen : goal.returns-clause-chosen
returns-clause-chosen c =
    let d : After-chosen_state = (goal.at.returns-clause-chosen c).After-chosen_state in
    subst (λ (xs : List Lit). IfOk c.chosen_state.result (λ found. IfSome found (IsChosenState c.args.protocol.now c.args.cube.now.width xs))) (whole d) c.chosen_state.ensures.chosen

pub returns-clause-satisfied : goal.returns-clause-satisfied
returns-clause-satisfied c =
    let d : After-chosen_state = (goal.at.returns-clause-satisfied c).After-chosen_state in
    on_found c.chosen_state.result (IsChosenState c.args.protocol.now c.args.cube.now.width c.args.cube.now.lits) (Fulfils c.args.protocol.now c.args.cube.now.width c.args.cube.now.lits)
    (λ s chosen. chosen_fulfils c.args.protocol.now c.args.cube.now.width c.args.cube.now.lits s c.requires.fitting.fit chosen)
    (subst (λ (xs : List Lit). IfOk c.chosen_state.result (λ found. IfSome found (IsChosenState c.args.protocol.now c.args.cube.now.width xs))) (whole d) c.chosen_state.ensures.chosen)
