use Rattle.cub_cube.specs.Meaning.{IsConsistent}
use Rattle.cub_cube.proofs.KeptLemmas.{kept_unique, kept_from, kept_has}
use Rattle.cub_cube.proofs.cover_laws.consistent_cubes_are_one_list.Goals as goal

pub returns-clause-one : goal.returns-clause-one
returns-clause-one c p = kept_unique (λ d. IsConsistent p d.width d.lits)

pub returns-clause-inside : goal.returns-clause-inside
returns-clause-inside c p = kept_from (λ d. IsConsistent p d.width d.lits)

pub returns-clause-all : goal.returns-clause-all
returns-clause-all c p = kept_has (λ d. IsConsistent p d.width d.lits)
