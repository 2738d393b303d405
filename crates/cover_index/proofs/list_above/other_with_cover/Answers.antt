use Rattle.std.proofs.Common.{◌≡◌, ◌<◌, ◌≤◌, ℕ, length, arith}
use Rattle.std.specs.Prelude.{slice_index}
use Rattle.cub_cube.specs.Cover.{DoesCover}
use Rattle.log_form.specs.Links.{cube_at}
use Rattle.subsume.specs.Summary.{IsCandidate}
use Rattle.cover_index.specs.Noted.{IsNoted}
use Rattle.cover_index.proofs.Searching.{rises_part, rises_from, rises_within, known_further}
use Rattle.cover_index.proofs.list_above.other_with_cover.Goals as goal

pub returns-then-some_other_in-clause-tests : goal.returns-then-some_other_in-clause-tests
returns-then-some_other_in-clause-tests c =
    let P : ℕ → Type 0 = λ j. IsCandidate c.args.protocol.now (cube_at c.args.store.now.cubes j) c.args.cube.now × (IsNoted c.args.recent.now j → ⊥) in
    let upto = length c.args.store.now.cubes in
    let part = c.next_above-from.result in
    let at = c.loop-at.at in
    let within : part.1 ≤ upto = omega (arith, c.next_above-from.ensures.within, c.count-upto.ensures.value) in
    let old = c.args.scratch.now.tests in
    let between = c.loop-at.scratch.tests in
    let new = c.some_other_in.new.scratch.tests in
    rises_within P 0 part.1 upto old new (omega arith) within
    (rises_part P 0 at part.1 old between new (omega arith) (omega (arith, c.next_above-from.ensures.further)) c.loop-at.invariant.tests (rises_from P at part.0 part.1 between new c.next_above-from.ensures.from c.some_other_in.ensures.tests))

pub loop-at-preserved : goal.loop-at-preserved
loop-at-preserved c =
    let p = c.args.protocol.now in
    let cubes = c.args.store.now.cubes in
    let cube = c.args.cube.now in
    let P : ℕ → Type 0 = λ j. IsCandidate p (cube_at cubes j) cube × (IsNoted c.args.recent.now j → ⊥) in
    let part = c.next_above-from.result in
    let at = c.loop-at.at in
    let within : c.count-upto.result ≤ length cubes = omega (arith, c.count-upto.ensures.value) in
    let between = c.loop-at.scratch.tests in
    let new = c.some_other_in.new.scratch.tests in
    let passed : (j : ℕ) → at ≤ j → j < part.0 → DoesCover p (cube_at cubes j) cube → ⊥ =
    c.next_above-from.ensures.none p cubes cube within c.requires.summed.askable c.requires.groups c.requires.larger c.requires.own c.requires.asked.askable c.requires.asked.met in
    record {
      asked = c.some_other_in.ensures.asked;
      within = c.next_above-from.ensures.within;
      none = known_further (λ j. IsNoted c.args.recent.now j → ⊥) (λ j. slice_index c.args.retired.now j ≡ 0 → DoesCover p (cube_at cubes j) cube → ⊥) at part.0 part.1 c.loop-at.invariant.none
          (λ j low high live. passed j low high) (c.some_other_in.ensures.none c.if-some_other_in.false);
      tests = rises_part P 0 at part.1 c.args.scratch.now.tests between new (omega arith) (omega (arith, c.next_above-from.ensures.further)) c.loop-at.invariant.tests
          (rises_from P at part.0 part.1 between new c.next_above-from.ensures.from c.some_other_in.ensures.tests);
    }

pub returns-clause-none : goal.returns-clause-none
returns-clause-none c i low = c.loop-at.invariant.none i (omega (arith, low, c.count-upto.ensures.value))

pub returns-clause-tests : goal.returns-clause-tests
returns-clause-tests c =
    let P : ℕ → Type 0 = λ j. IsCandidate c.args.protocol.now (cube_at c.args.store.now.cubes j) c.args.cube.now × (IsNoted c.args.recent.now j → ⊥) in
    rises_within P 0 c.loop-at.at (length c.args.store.now.cubes) c.args.scratch.now.tests c.loop-at.scratch.tests (omega arith) (omega (arith, c.loop-at.invariant.within, c.count-upto.ensures.value)) c.loop-at.invariant.tests
