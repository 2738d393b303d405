use Rattle.std.proofs.Common.{ℕ, length, Some, None, subst, arith}
use Rattle.cub_cube.specs.Cover.{DoesCover}
use Rattle.log_form.specs.Links.{cube_at}
use Rattle.subsume.specs.Summary.{IsCandidate}
use Rattle.cover_index.specs.Counted.{RisesFor}
use Rattle.cover_index.proofs.Searching.{rises_part, rises_from, rises_within, rises_none, cover_further, cover_within, none_further}
use Rattle.cover_index.proofs.list_above.first_cover.Goals as goal

pub returns-in-Some-clause-first : goal.returns-in-Some-clause-first
returns-in-Some-clause-first c =
    let upto = length c.args.store.now.cubes in
    let part = c.next_above-from.result in
    c.loop-at.invariant.first (Some c.in-Some.found) (cover_further c.args.protocol.now c.args.store.now.cubes c.args.cube.now c.loop-at.at part.0 upto (Some c.in-Some.found) c.next_above-from.ensures.from
    (c.next_above-from.ensures.none c.args.protocol.now c.args.store.now.cubes c.args.cube.now (omega arith) c.requires.summed.askable c.requires.groups c.requires.larger c.of-own.ensures.own c.requires.fit c.load_small-consistent.ensures.exact.0)
    (cover_within c.args.protocol.now c.args.store.now.cubes c.args.cube.now part.0 part.1 upto c.in-Some.found (omega arith) c.in-Some.ensures.first))

pub returns-in-Some-clause-tests : goal.returns-in-Some-clause-tests
returns-in-Some-clause-tests c =
    let upto = length c.args.store.now.cubes in
    let part = c.next_above-from.result in
    let P : ℕ → Type 0 = λ j. IsCandidate c.args.protocol.now (cube_at c.args.store.now.cubes j) c.args.cube.now in
    let new = c.first_in.new.scratch.tests in
    subst (λ old. RisesFor P c.args.start upto old new) c.load_small-consistent.ensures.count
    (c.loop-at.invariant.tests new (rises_from P c.loop-at.at part.0 upto c.loop-at.scratch.tests new c.next_above-from.ensures.from
    (rises_within P part.0 part.1 upto c.loop-at.scratch.tests new c.next_above-from.ensures.order (omega arith) c.first_in.ensures.tests)))

pub loop-at-preserved : goal.loop-at-preserved
loop-at-preserved c =
    let upto = length c.args.store.now.cubes in
    let part = c.next_above-from.result in
    let P : ℕ → Type 0 = λ j. IsCandidate c.args.protocol.now (cube_at c.args.store.now.cubes j) c.args.cube.now in
    record {
      asked = c.first_in.ensures.asked;
      first = λ r h. c.loop-at.invariant.first r (cover_further c.args.protocol.now c.args.store.now.cubes c.args.cube.now c.loop-at.at part.1 upto r (omega (arith, c.next_above-from.ensures.further))
          (none_further (λ j. DoesCover c.args.protocol.now (cube_at c.args.store.now.cubes j) c.args.cube.now) c.loop-at.at part.0 part.1
          (c.next_above-from.ensures.none c.args.protocol.now c.args.store.now.cubes c.args.cube.now (omega arith) c.requires.summed.askable c.requires.groups c.requires.larger c.of-own.ensures.own c.requires.fit c.load_small-consistent.ensures.exact.0)
          c.in-None.ensures.first) h);
      tests = λ new h. c.loop-at.invariant.tests new (rises_from P c.loop-at.at part.0 upto c.loop-at.scratch.tests new c.next_above-from.ensures.from
          (rises_part P part.0 part.1 upto c.loop-at.scratch.tests c.first_in.new.scratch.tests new c.next_above-from.ensures.order (omega arith) c.first_in.ensures.tests h));
    }

pub returns-clause-first : goal.returns-clause-first
returns-clause-first c = c.loop-at.invariant.first None (λ j low high. absurd (omega arith))

pub returns-clause-tests : goal.returns-clause-tests
returns-clause-tests c =
    let P : ℕ → Type 0 = λ j. IsCandidate c.args.protocol.now (cube_at c.args.store.now.cubes j) c.args.cube.now in
    let upto = length c.args.store.now.cubes in
    let now = c.loop-at.scratch.tests in
    subst (λ old. RisesFor P c.args.start upto old now) c.load_small-consistent.ensures.count
    (c.loop-at.invariant.tests now (rises_none P c.loop-at.at upto now now (omega arith)))
