use Rattle.std.proofs.Common.{◌≡◌, ◌+◌, ◌-◌, ◌%◌, ◌≤◌, arith}
use Rattle.cover_index.proofs.Parting.{summed_part, met_part, under_some, under_none, under_tests}
use Rattle.cover_index.proofs.list_below.first_in.Goals as goal

pub first_among-requires-clause-summed : goal.first_among-requires-clause-summed
first_among-requires-clause-summed c =
    let p = c.args.protocol.now in
    let from = c.args.from in
    let upto = c.args.upto in
    let base = from - from % 64 in
    let last : base + (upto - base) ≡ upto = omega arith in
    let few : upto - base ≤ 64 = omega arith in
    let start : base + from % 64 ≡ from = omega arith in
    summed_part p c.args.store.now c.segment-segment.result.now base (upto - base) upto c.segment-segment.ensures few last c.requires.within c.cubes.result.now c.cubes.ensures c.summaries.result.now c.summaries.ensures.value c.summaries.ensures.one_each c.requires.summed

pub returns-in-Some-clause-first : goal.returns-in-Some-clause-first
returns-in-Some-clause-first c =
    let p = c.args.protocol.now in
    let from = c.args.from in
    let upto = c.args.upto in
    let base = from - from % 64 in
    let last : base + (upto - base) ≡ upto = omega arith in
    let few : upto - base ≤ 64 = omega arith in
    let start : base + from % 64 ≡ from = omega arith in
    under_some p c.args.store.now c.segment-segment.result.now base (upto - base) upto c.segment-segment.ensures few last c.requires.within c.cubes.result.now c.cubes.ensures c.args.cube.now (from % 64) from start c.in-Some.i c.in-Some.places c.in-Some.ensures.first

pub returns-in-Some-clause-tests : goal.returns-in-Some-clause-tests
returns-in-Some-clause-tests c =
    let p = c.args.protocol.now in
    let from = c.args.from in
    let upto = c.args.upto in
    let base = from - from % 64 in
    let last : base + (upto - base) ≡ upto = omega arith in
    let few : upto - base ≤ 64 = omega arith in
    let start : base + from % 64 ≡ from = omega arith in
    under_tests p c.args.store.now c.segment-segment.result.now base (upto - base) upto c.segment-segment.ensures few last c.requires.within c.cubes.result.now c.cubes.ensures c.args.cube.now (from % 64) from start c.args.scratch.now.tests c.first_among.new.scratch.tests c.first_among.ensures.tests

pub returns-in-None-clause-first : goal.returns-in-None-clause-first
returns-in-None-clause-first c =
    let p = c.args.protocol.now in
    let from = c.args.from in
    let upto = c.args.upto in
    let base = from - from % 64 in
    let last : base + (upto - base) ≡ upto = omega arith in
    let few : upto - base ≤ 64 = omega arith in
    let start : base + from % 64 ≡ from = omega arith in
    under_none p c.args.store.now c.segment-segment.result.now base (upto - base) upto c.segment-segment.ensures few last c.requires.within c.cubes.result.now c.cubes.ensures c.args.cube.now (from % 64) from start c.in-None.ensures.first

pub returns-in-None-clause-tests : goal.returns-in-None-clause-tests
returns-in-None-clause-tests c =
    let p = c.args.protocol.now in
    let from = c.args.from in
    let upto = c.args.upto in
    let base = from - from % 64 in
    let last : base + (upto - base) ≡ upto = omega arith in
    let few : upto - base ≤ 64 = omega arith in
    let start : base + from % 64 ≡ from = omega arith in
    under_tests p c.args.store.now c.segment-segment.result.now base (upto - base) upto c.segment-segment.ensures few last c.requires.within c.cubes.result.now c.cubes.ensures c.args.cube.now (from % 64) from start c.args.scratch.now.tests c.first_among.new.scratch.tests c.first_among.ensures.tests

pub first_among-requires-clause-met : goal.first_among-requires-clause-met
first_among-requires-clause-met c j low below =
    let p = c.args.protocol.now in
    let from = c.args.from in
    let upto = c.args.upto in
    let base = from - from % 64 in
    let last : base + (upto - base) ≡ upto = omega arith in
    let few : upto - base ≤ 64 = omega arith in
    let start : base + from % 64 ≡ from = omega arith in
    met_part p c.args.store.now c.segment-segment.result.now base (upto - base) upto c.segment-segment.ensures few last c.requires.within c.cubes.result.now c.cubes.ensures c.args.met (c.min.result - base) (omega arith) (λ some. omega (arith, some)) c.requires.met j low
