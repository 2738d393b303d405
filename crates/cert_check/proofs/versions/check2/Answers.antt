use Rattle.std.proofs.lemmas.Result.{err_from_is_err_and}
use Rattle.cub_cube.proofs.InductiveLemmas.{inductive_safe}
use Rattle.cert_check.specs.declared.keys.Key.{Key}
use Rattle.cert_check.specs.Obligations.{IsOwed}
use Rattle.piece_laws.proofs.TestLemmas.{test_inductive, lines_test}
use Rattle.cert_check.proofs.Owing.{none_first}
use Rattle.cert_check.proofs.Passing.{all_named, cubes_fit}
use Rattle.cert_check.proofs.Walking.{come_first}
use Rattle.cert_check.proofs.versions.check2.Goals as goal

pub test_named_goals-requires-clause-come : goal.test_named_goals-requires-clause-come
test_named_goals-requires-clause-come c = come_first (IsOwed c.args.protocol.now c.args.cubes.now) c.args.lines.now (Key.Goal 0) (none_first c.args.protocol.now c.args.cubes.now)

pub returns-clause-passes : goal.returns-clause-passes
returns-clause-passes c =
    all_named c.args.protocol.now c.args.cubes.now c.args.lines.now c.in_ok-test_starts.ensures.ok c.in_ok-test_named_goals.ensures.ok c.in_ok-test_named_pieces.ensures.ok.0 c.in_ok-test_named_pieces.ensures.ok.1 c.in_ok-test_lines.ensures.ok

pub returns-clause-test : goal.returns-clause-test
returns-clause-test c =
    lines_test c.args.protocol.now c.args.cubes.now c.args.lines.now
    (all_named c.args.protocol.now c.args.cubes.now c.args.lines.now c.in_ok-test_starts.ensures.ok c.in_ok-test_named_goals.ensures.ok c.in_ok-test_named_pieces.ensures.ok.0 c.in_ok-test_named_pieces.ensures.ok.1 c.in_ok-test_lines.ensures.ok)

pub returns-clause-inductive : goal.returns-clause-inductive
returns-clause-inductive c =
    test_inductive c.args.protocol.now c.args.cubes.now (cubes_fit c.args.protocol.now c.args.cubes.now c.requires.fit)
    (lines_test c.args.protocol.now c.args.cubes.now c.args.lines.now
    (all_named c.args.protocol.now c.args.cubes.now c.args.lines.now c.in_ok-test_starts.ensures.ok c.in_ok-test_named_goals.ensures.ok c.in_ok-test_named_pieces.ensures.ok.0 c.in_ok-test_named_pieces.ensures.ok.1 c.in_ok-test_lines.ensures.ok))

pub returns-clause-safe : goal.returns-clause-safe
returns-clause-safe c =
    inductive_safe c.args.protocol.now c.args.cubes.now
    (test_inductive c.args.protocol.now c.args.cubes.now (cubes_fit c.args.protocol.now c.args.cubes.now c.requires.fit)
    (lines_test c.args.protocol.now c.args.cubes.now c.args.lines.now
    (all_named c.args.protocol.now c.args.cubes.now c.args.lines.now c.in_ok-test_starts.ensures.ok c.in_ok-test_named_goals.ensures.ok c.in_ok-test_named_pieces.ensures.ok.0 c.in_ok-test_named_pieces.ensures.ok.1 c.in_ok-test_lines.ensures.ok)))

pub returns-in_err-test_starts-clause-refused : goal.returns-in_err-test_starts-clause-refused
returns-in_err-test_starts-clause-refused c =
    let p = err_from_is_err_and c.from_residual-in_err-test_starts.result c.from_residual-in_err-test_starts.ensures.1 in
    rw (p.1, p.2) (c.in_err-test_starts.ensures.named c.args.lines.now)
