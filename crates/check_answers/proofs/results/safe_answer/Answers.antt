use Rattle.std.specs.Prelude.{List, length, All, ◌≤◌}
use Rattle.cub_cube.specs.declared.cube.Cube.{Cube}
use Rattle.cub_cube.specs.Inductive.{IsInductive}
use Rattle.cub_cube.specs.Meaning.{IsConsistent}
use Rattle.piece_laws.specs.Test.{PassesTest}
use Rattle.core_laws.specs.Apart.{AreApart}
use Rattle.check_answers.proofs.Telling.{of_ok, safe_told}
use Rattle.check_answers.proofs.results.safe_answer.Goals as goal

pub returns : goal.returns
returns c =
    let log = c.args.log.now in
    let all = c.cubes_of.ensures in
    safe_told log c.args.protocol.now c.in_ok-cubes.cubes c.args.format c.in_ok-text.text c.requires.protocol c.in_ok-cubes.ensures.value c.requires.safe
    (record {
      inductive = of_ok c.cubes_of.result c.in_ok-cubes.cubes (IsInductive log.protocol) c.in_ok-cubes.was (all.inductive c.requires.safe);
      passes = of_ok c.cubes_of.result c.in_ok-cubes.cubes (PassesTest log.protocol) c.in_ok-cubes.was (all.passes c.requires.safe);
      possible = of_ok c.cubes_of.result c.in_ok-cubes.cubes (All (λ (x : Cube). IsConsistent log.protocol x.width x.lits)) c.in_ok-cubes.was all.possible;
      apart = of_ok c.cubes_of.result c.in_ok-cubes.cubes (AreApart log.protocol) c.in_ok-cubes.was all.apart;
      few = of_ok c.cubes_of.result c.in_ok-cubes.cubes (λ (cubes : List Cube). length cubes ≤ log.budget.cubes) c.in_ok-cubes.was all.few;
      narrow = of_ok c.cubes_of.result c.in_ok-cubes.cubes (All (λ (x : Cube). x.width ≤ log.budget.width)) c.in_ok-cubes.was (all.narrow c.requires.safe);
    })
    (rw (← c.as_slice.ensures) c.in_ok-text.ensures)
