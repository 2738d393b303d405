use Rattle.std.proofs.Common.{◌≡◌, ◌≢◌, ◌<◌, ◌≤◌, ℕ, ◌+◌, List, length, sym, subst, arith}
use Rattle.std.specs.Prelude.{AllPairs, slice_index}
use Rattle.cub_cube.specs.Cover.{DoesCover}
use Rattle.log_form.specs.Links.{cube_at}
use Rattle.subsume.specs.Summary.{IsCandidate}
use Rattle.cover_index.specs.Counted.{RisesFor}
use Rattle.cover_index.specs.Noted.{IsNoted}
use Rattle.cover_index.proofs.Grouped.{among_first, rises_noted, none_noted, rises_first}
use Rattle.cover_index.proofs.list_above.noted_with_cover.Goals as goal

pub returns-then-some_in_group-clause-tests : goal.returns-then-some_in_group-clause-tests
returns-then-some_in_group-clause-tests c =
    let P : ℕ → Type 0 = λ j. IsCandidate c.args.protocol.now (cube_at c.args.store.now.cubes j) c.args.cube.now in
    let upto = length c.args.store.now.cubes in
    let items = c.as_slice-group-items.result.now in
    let same = c.as_slice-group-items.ensures.value in
    let distinct = subst (λ (xs : List ℕ). AllPairs (λ x y. x ≢ y) xs) (sym same) c.as_slice-group-items.ensures.distinct in
    let k = c.loop-group.group-index in
    let below : k < length items = c.loop-group-test.true in
    let part = c.part_of-from.result in
    let within : part.1 ≤ upto = omega (arith, c.part_of-from.ensures.within, c.count-upto.ensures.value) in
    let old = c.args.scratch.now.tests in
    let new = c.some_in_group.new.scratch.tests in
    subst (λ (xs : List ℕ). RisesFor (λ j. P j × IsNoted xs j) 0 upto old new) same (rises_first items P (k + 1) upto old new (omega arith)
    (rises_noted items k below P part.0 part.1 upto c.part_of-from.ensures.order within distinct c.part_of-from.ensures.inside old c.loop-group.scratch.tests new c.loop-group.invariant.tests c.some_in_group.ensures.tests))

pub loop-group-preserved : goal.loop-group-preserved
loop-group-preserved c =
    let P : ℕ → Type 0 = λ j. IsCandidate c.args.protocol.now (cube_at c.args.store.now.cubes j) c.args.cube.now in
    let Q : ℕ → Type 0 = λ j. DoesCover c.args.protocol.now (cube_at c.args.store.now.cubes j) c.args.cube.now in
    let R : ℕ → Type 0 = λ j. slice_index c.args.retired.now j ≡ 0 in
    let upto = length c.args.store.now.cubes in
    let items = c.as_slice-group-items.result.now in
    let distinct = subst (λ (xs : List ℕ). AllPairs (λ x y. x ≢ y) xs) (sym c.as_slice-group-items.ensures.value) c.as_slice-group-items.ensures.distinct in
    let k = c.loop-group.group-index in
    let below : k < length items = c.loop-group-test.true in
    let part = c.part_of-from.result in
    let within : part.1 ≤ upto = omega (arith, c.part_of-from.ensures.within, c.count-upto.ensures.value) in
    record {
      asked = c.some_in_group.ensures.asked;
      none = none_noted items k below P part.0 part.1 upto c.part_of-from.ensures.order within Q R (λ j low. c.part_of-from.ensures.all j (omega (arith, low, c.count-upto.ensures.value)))
          c.loop-group.invariant.none (c.some_in_group.ensures.none c.if-some_in_group.false);
      tests = rises_noted items k below P part.0 part.1 upto c.part_of-from.ensures.order within distinct c.part_of-from.ensures.inside
          c.args.scratch.now.tests c.loop-group.scratch.tests c.some_in_group.new.scratch.tests c.loop-group.invariant.tests c.some_in_group.ensures.tests;
    }

pub returns-clause-none : goal.returns-clause-none
returns-clause-none c i low noted =
    let items = c.as_slice-group-items.result.now in
    let k = c.loop-group.group-index in
    let all : length items ≤ k = omega arith in
    c.loop-group.invariant.none i low (among_first items (length items) k i all (subst (λ (xs : List ℕ). IsNoted xs i) (sym c.as_slice-group-items.ensures.value) noted))

pub returns-clause-tests : goal.returns-clause-tests
returns-clause-tests c =
    let P : ℕ → Type 0 = λ j. IsCandidate c.args.protocol.now (cube_at c.args.store.now.cubes j) c.args.cube.now in
    let upto = length c.args.store.now.cubes in
    let items = c.as_slice-group-items.result.now in
    let old = c.args.scratch.now.tests in
    let new = c.loop-group.scratch.tests in
    subst (λ (xs : List ℕ). RisesFor (λ j. P j × IsNoted xs j) 0 upto old new) c.as_slice-group-items.ensures.value (rises_first items P c.loop-group.group-index upto old new (omega arith) c.loop-group.invariant.tests)
