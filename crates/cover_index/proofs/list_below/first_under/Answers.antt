use Rattle.std.proofs.Common.{ℕ, length, Some, None, arith}
use Rattle.cub_cube.specs.Cover.{DoesCover}
use Rattle.log_form.specs.Links.{cube_at}
use Rattle.subsume.specs.Summary.{IsCandidate}
use Rattle.cover_index.proofs.Searching.{rises_part, rises_from, rises_within, rises_none, under_further, under_within, none_further}
use Rattle.cover_index.proofs.list_below.first_under.Goals as goal

pub returns-in-Some-clause-first : goal.returns-in-Some-clause-first
returns-in-Some-clause-first c =
    let upto = length c.args.store.now.cubes in
    let part = c.next_below-from.result in
    c.loop-at.invariant.first (Some c.in-Some.found) (under_further c.args.protocol.now c.args.store.now.cubes c.args.cube.now c.loop-at.at part.0 upto (Some c.in-Some.found) c.next_below-from.ensures.from
    (c.next_below-from.ensures.none c.args.protocol.now c.args.store.now.cubes c.args.cube.now (omega arith) c.requires.summed.askable c.requires.groups c.requires.larger c.of-own.ensures.own c.requires.fit c.requires.met)
    (under_within c.args.protocol.now c.args.store.now.cubes c.args.cube.now part.0 part.1 upto c.in-Some.found (omega arith) c.in-Some.ensures.first))

pub returns-in-Some-clause-tests : goal.returns-in-Some-clause-tests
returns-in-Some-clause-tests c =
    let upto = length c.args.store.now.cubes in
    let part = c.next_below-from.result in
    let P : ℕ → Type 0 = λ j. IsCandidate c.args.protocol.now c.args.cube.now (cube_at c.args.store.now.cubes j) in
    let new = c.first_in.new.scratch.tests in
    c.loop-at.invariant.tests new (rises_from P c.loop-at.at part.0 upto c.loop-at.scratch.tests new c.next_below-from.ensures.from
    (rises_within P part.0 part.1 upto c.loop-at.scratch.tests new c.next_below-from.ensures.order (omega arith) c.first_in.ensures.tests))

pub loop-at-preserved : goal.loop-at-preserved
loop-at-preserved c =
    let upto = length c.args.store.now.cubes in
    let part = c.next_below-from.result in
    let P : ℕ → Type 0 = λ j. IsCandidate c.args.protocol.now c.args.cube.now (cube_at c.args.store.now.cubes j) in
    record {
      made = c.first_in.ensures.made;
      first = λ r h. c.loop-at.invariant.first r (under_further c.args.protocol.now c.args.store.now.cubes c.args.cube.now c.loop-at.at part.1 upto r (omega (arith, c.next_below-from.ensures.further))
          (none_further (λ j. DoesCover c.args.protocol.now c.args.cube.now (cube_at c.args.store.now.cubes j)) c.loop-at.at part.0 part.1
          (c.next_below-from.ensures.none c.args.protocol.now c.args.store.now.cubes c.args.cube.now (omega arith) c.requires.summed.askable c.requires.groups c.requires.larger c.of-own.ensures.own c.requires.fit c.requires.met)
          c.in-None.ensures.first) h);
      tests = λ new h. c.loop-at.invariant.tests new (rises_from P c.loop-at.at part.0 upto c.loop-at.scratch.tests new c.next_below-from.ensures.from
          (rises_part P part.0 part.1 upto c.loop-at.scratch.tests c.first_in.new.scratch.tests new c.next_below-from.ensures.order (omega arith) c.first_in.ensures.tests h));
    }

pub returns-clause-first : goal.returns-clause-first
returns-clause-first c = c.loop-at.invariant.first None (λ j low high. absurd (omega arith))

pub returns-clause-tests : goal.returns-clause-tests
returns-clause-tests c =
    c.loop-at.invariant.tests c.loop-at.scratch.tests (rises_none (λ j. IsCandidate c.args.protocol.now c.args.cube.now (cube_at c.args.store.now.cubes j)) c.loop-at.at (length c.args.store.now.cubes) c.loop-at.scratch.tests c.loop-at.scratch.tests (omega arith))
