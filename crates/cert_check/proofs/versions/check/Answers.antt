use Rattle.cub_cube.proofs.InductiveLemmas.{inductive_safe}
use Rattle.piece_laws.proofs.TestLemmas.{test_inductive}
use Rattle.cert_check.proofs.Passing.{all_covered, cubes_fit}
use Rattle.cert_check.proofs.versions.check.Goals as goal

pub returns-clause-passes : goal.returns-clause-passes
returns-clause-passes c =
    all_covered c.args.protocol.now c.args.cubes.now c.in_ok-test_starts.ensures.ok c.in_ok-test_goals.ensures.ok c.in_ok-test_pieces.ensures.ok.0 c.in_ok-test_pieces.ensures.ok.1

pub returns-clause-inductive : goal.returns-clause-inductive
returns-clause-inductive c =
    test_inductive c.args.protocol.now c.args.cubes.now (cubes_fit c.args.protocol.now c.args.cubes.now c.requires.fit)
    (all_covered c.args.protocol.now c.args.cubes.now c.in_ok-test_starts.ensures.ok c.in_ok-test_goals.ensures.ok c.in_ok-test_pieces.ensures.ok.0 c.in_ok-test_pieces.ensures.ok.1)

pub returns-clause-safe : goal.returns-clause-safe
returns-clause-safe c =
    inductive_safe c.args.protocol.now c.args.cubes.now
    (test_inductive c.args.protocol.now c.args.cubes.now (cubes_fit c.args.protocol.now c.args.cubes.now c.requires.fit)
    (all_covered c.args.protocol.now c.args.cubes.now c.in_ok-test_starts.ensures.ok c.in_ok-test_goals.ensures.ok c.in_ok-test_pieces.ensures.ok.0 c.in_ok-test_pieces.ensures.ok.1))
