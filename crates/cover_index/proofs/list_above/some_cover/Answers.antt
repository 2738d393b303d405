use Rattle.std.proofs.Common.{ℕ, ◌≡◌, ◌<◌, length, subst}
use Rattle.std.specs.Prelude.{slice_index, IfNone}
use Rattle.cub_cube.specs.Cover.{DoesCover, IsCovered}
use Rattle.log_form.specs.Links.{cube_at}
use Rattle.subsume.specs.Summary.{IsCandidate}
use Rattle.subsume.proofs.Retiring.{none_covers}
use Rattle.cover_index.specs.Counted.{RisesFor}
use Rattle.cover_index.specs.Noted.{IsNoted}
use Rattle.cover_index.proofs.Searching.{if_none}
use Rattle.cover_index.proofs.Merging.{rises_each}
use Rattle.cover_index.proofs.Grouped.{rises_both, none_both}
use Rattle.cover_index.proofs.list_above.some_cover.Goals as goal

pub returns-in-Some-clause-tests : goal.returns-in-Some-clause-tests
returns-in-Some-clause-tests c =
    let P : ℕ → Type 0 = λ j. IsCandidate c.args.protocol.now (cube_at c.args.store.now.cubes j) c.args.cube.now in
    let upto = length c.args.store.now.cubes in
    let new = c.noted_with_cover.new.scratch.tests in
    subst (λ n. RisesFor P 0 upto n new) c.load_small-consistent.ensures.count
    (rises_each (λ j. P j × IsNoted c.args.recent.now j) P 0 upto c.load_small-consistent.new.scratch.tests new (λ j low high both. both.0) c.noted_with_cover.ensures.tests)

pub returns-clause-none : goal.returns-clause-none
returns-clause-none c =
    let p = c.args.protocol.now in
    let cubes = c.args.store.now.cubes in
    let cube = c.args.cube.now in
    let groups = c.args.recent.now in
    let upto = length cubes in
    let Q : ℕ → Type 0 = λ j. DoesCover p (cube_at cubes j) cube in
    let R : ℕ → Type 0 = λ j. slice_index c.args.retired.now j ≡ 0 in
    let Noted : Type 0 = (j : ℕ) → j < upto → IsNoted groups j → R j → Q j → ⊥ in
    let Others : Type 0 = (j : ℕ) → j < upto → (IsNoted groups j → ⊥) → R j → Q j → ⊥ in
    let noted : Noted = subst (λ o. IfNone o Noted) c.in-None.is c.noted_with_cover.ensures.none in
    if_none c.other_with_cover.result Others (IsCovered p cubes cube → ⊥) (λ others. none_covers p cubes c.args.retired.now cube c.requires.covered (none_both groups Q R upto noted others)) c.other_with_cover.ensures.none

pub returns-clause-tests : goal.returns-clause-tests
returns-clause-tests c =
    let P : ℕ → Type 0 = λ j. IsCandidate c.args.protocol.now (cube_at c.args.store.now.cubes j) c.args.cube.now in
    let upto = length c.args.store.now.cubes in
    let new = c.other_with_cover.new.scratch.tests in
    subst (λ n. RisesFor P 0 upto n new) c.load_small-consistent.ensures.count
    (rises_both c.args.recent.now P upto c.load_small-consistent.new.scratch.tests c.noted_with_cover.new.scratch.tests new c.noted_with_cover.ensures.tests c.other_with_cover.ensures.tests)
