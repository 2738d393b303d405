use Rattle.std.proofs.Common.{◌≡◌, ◌+◌, ◌-◌, ◌%◌, ◌≤◌, arith}
use Rattle.cover_index.proofs.Parting.{summed_part, cover_tests, covered_part, none_live_in}
use Rattle.cover_index.proofs.list_above.some_in.Goals as goal

pub some_among-requires-clause-summed : goal.some_among-requires-clause-summed
some_among-requires-clause-summed c =
    let p = c.args.protocol.now in
    let from = c.args.from in
    let upto = c.args.upto in
    let base = from - from % 64 in
    let last : base + (upto - base) ≡ upto = omega arith in
    let few : upto - base ≤ 64 = omega arith in
    let start : base + from % 64 ≡ from = omega arith in
    summed_part p c.args.store.now c.segment-segment.result.now base (upto - base) upto c.segment-segment.ensures few last c.requires.within c.cubes.result.now c.cubes.ensures c.summaries.result.now c.summaries.ensures.value c.summaries.ensures.one_each c.requires.summed

pub returns-clause-some : goal.returns-clause-some
returns-clause-some c h =
    let p = c.args.protocol.now in
    let from = c.args.from in
    let upto = c.args.upto in
    let base = from - from % 64 in
    let last : base + (upto - base) ≡ upto = omega arith in
    let few : upto - base ≤ 64 = omega arith in
    let start : base + from % 64 ≡ from = omega arith in
    covered_part p c.args.store.now c.segment-segment.result.now base (upto - base) upto c.segment-segment.ensures few last c.requires.within c.cubes.result.now c.cubes.ensures c.args.cube.now (from % 64) from start (c.some_among.ensures.some h)

pub returns-clause-none : goal.returns-clause-none
returns-clause-none c h =
    let p = c.args.protocol.now in
    let from = c.args.from in
    let upto = c.args.upto in
    let base = from - from % 64 in
    let last : base + (upto - base) ≡ upto = omega arith in
    let few : upto - base ≤ 64 = omega arith in
    let start : base + from % 64 ≡ from = omega arith in
    none_live_in p c.args.store.now c.segment-segment.result.now base (upto - base) upto c.segment-segment.ensures few last c.requires.within c.cubes.result.now c.cubes.ensures c.args.cube.now (from % 64) from start c.args.retired.now (c.some_among.ensures.none h)

pub returns-clause-tests : goal.returns-clause-tests
returns-clause-tests c =
    let p = c.args.protocol.now in
    let from = c.args.from in
    let upto = c.args.upto in
    let base = from - from % 64 in
    let last : base + (upto - base) ≡ upto = omega arith in
    let few : upto - base ≤ 64 = omega arith in
    let start : base + from % 64 ≡ from = omega arith in
    cover_tests p c.args.store.now c.segment-segment.result.now base (upto - base) upto c.segment-segment.ensures few last c.requires.within c.cubes.result.now c.cubes.ensures c.args.cube.now (from % 64) from start c.args.scratch.now.tests c.some_among.new.scratch.tests c.some_among.ensures.tests
