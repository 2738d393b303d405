use Rattle.std.proofs.Common.{◌≡◌, ◌<◌, ◌≤◌, ◌+◌, ℕ, List, length, Some, None, sym, subst, arith}
use Rattle.cub_cube.specs.declared.cube.Cube.{Cube}
use Rattle.cub_cube.specs.Cover.{DoesCover, CoversLeast}
use Rattle.log_form.specs.Pieces.{IsAskable}
use Rattle.log_form.specs.Links.{cube_at}
use Rattle.subsume.specs.Summary.{IsSummary, IsCandidate}
use Rattle.subsume.specs.declared.summary.Summary.{Summary}
use Rattle.subsume.proofs.Retiring.{cube_read}
use Rattle.cover_index.specs.Counted.{RisesIf}
use Rattle.cover_index.specs.Asked.{summary_at}
use Rattle.cover_index.proofs.Searching.{rises_one, rises_none, rises_from, cover_further, none_one, none_further}
use Rattle.cover_index.proofs.Columned.{none_above}
use Rattle.cover_index.proofs.above.first_among.Goals as goal

pub covers_asked-requires-clause-fit : goal.covers_asked-requires-clause-fit
covers_asked-requires-clause-fit c =
    let i = c.next_beyond-i.result in
    let below : i < length c.args.cubes.now = omega (arith, c.requires.summed.within) in
    subst (λ (x : Cube). IsAskable c.args.protocol.now x) (cube_read c.args.cubes.now i c.index-cubes-i.result below c.index-cubes-i.is) (c.requires.summed.askable i (omega arith))

pub covers_asked-requires-clause-summary : goal.covers_asked-requires-clause-summary
covers_asked-requires-clause-summary c =
    let i = c.next_beyond-i.result in
    let below : i < length c.args.cubes.now = omega (arith, c.requires.summed.within) in
    subst (λ (ss : List Summary). IsSummary c.args.protocol.now c.index-cubes-i.result (summary_at ss i)) (sym c.as_slice-all.ensures)
    (subst (λ (x : Cube). IsSummary c.args.protocol.now x (summary_at c.args.summaries.now i)) (cube_read c.args.cubes.now i c.index-cubes-i.result below c.index-cubes-i.is)
    (c.requires.summed.own i (omega arith)))

pub returns-in-Some-clause-first : goal.returns-in-Some-clause-first
returns-in-Some-clause-first c =
    let p = c.args.protocol.now in
    let cubes = c.args.cubes.now in
    let cube = c.args.cube.now in
    let i = c.next_beyond-i.result in
    let at = c.loop-at.at in
    let passed : (j : ℕ) → at ≤ j → j < i → DoesCover p (cube_at cubes j) cube → ⊥ =
    none_above p cubes c.args.summaries.now c.args.upto c.requires.summed cube c.args.own.now c.requires.asked.own c.requires.asked.askable c.told_apart-apart.result c.loop-at.at i (omega arith) c.next_beyond-i.ensures.passed
    c.args.consistent c.requires.asked.met (c.told_apart-apart.ensures c.args.own.now c.requires.lacking) in
    let below : i < length c.args.cubes.now = omega (arith, c.requires.summed.within) in
    let here : cube_at c.args.cubes.now i ≡ c.index-cubes-i.result = cube_read c.args.cubes.now i c.index-cubes-i.result below c.index-cubes-i.is in
    c.loop-at.invariant.first (Some (i, c.in-Some.places)) (
      omega arith,
      omega arith,
      subst (λ (x : Cube). CoversLeast c.args.protocol.now x c.args.cube.now c.in-Some.places) (sym here) c.in-Some.ensures.exact,
      passed,
    )

pub returns-in-Some-clause-tests : goal.returns-in-Some-clause-tests
returns-in-Some-clause-tests c =
    let i = c.next_beyond-i.result in
    let below : i < length c.args.cubes.now = omega (arith, c.requires.summed.within) in
    let here : cube_at c.args.cubes.now i ≡ c.index-cubes-i.result = cube_read c.args.cubes.now i c.index-cubes-i.result below c.index-cubes-i.is in
    let P : ℕ → Type 0 = λ j. IsCandidate c.args.protocol.now (cube_at c.args.cubes.now j) c.args.cube.now in
    let new = c.covers_asked.new.scratch.tests in
    c.loop-at.invariant.tests new (rises_from P c.loop-at.at i c.args.upto c.loop-at.scratch.tests new c.next_beyond-i.ensures.from (rises_one P i c.args.upto c.loop-at.scratch.tests new new (omega arith)
    (subst (λ (x : Cube). RisesIf (IsCandidate c.args.protocol.now x c.args.cube.now) c.loop-at.scratch.tests new) (sym here) c.covers_asked.ensures.tests)
    (rises_none P (i + 1) c.args.upto new new (omega arith))))

pub loop-at-preserved : goal.loop-at-preserved
loop-at-preserved c =
    let p = c.args.protocol.now in
    let cubes = c.args.cubes.now in
    let cube = c.args.cube.now in
    let i = c.next_beyond-i.result in
    let at = c.loop-at.at in
    let passed : (j : ℕ) → at ≤ j → j < i → DoesCover p (cube_at cubes j) cube → ⊥ =
    none_above p cubes c.args.summaries.now c.args.upto c.requires.summed cube c.args.own.now c.requires.asked.own c.requires.asked.askable c.told_apart-apart.result c.loop-at.at i (omega arith) c.next_beyond-i.ensures.passed
    c.args.consistent c.requires.asked.met (c.told_apart-apart.ensures c.args.own.now c.requires.lacking) in
    let below : i < length c.args.cubes.now = omega (arith, c.requires.summed.within) in
    let here : cube_at c.args.cubes.now i ≡ c.index-cubes-i.result = cube_read c.args.cubes.now i c.index-cubes-i.result below c.index-cubes-i.is in
    record {
      asked = c.covers_asked.ensures.asked;
      first = λ r h. c.loop-at.invariant.first r (cover_further c.args.protocol.now c.args.cubes.now c.args.cube.now at (i + 1) c.args.upto r (omega arith)
          (none_further (λ j. DoesCover c.args.protocol.now (cube_at c.args.cubes.now j) c.args.cube.now) at i (i + 1) passed (none_one (λ j. DoesCover c.args.protocol.now (cube_at c.args.cubes.now j) c.args.cube.now) i
          (λ covers. c.in-None.ensures.exact (subst (λ (x : Cube). DoesCover c.args.protocol.now x c.args.cube.now) here covers)))) h);
      tests = λ new h. c.loop-at.invariant.tests new (rises_from (λ j. IsCandidate c.args.protocol.now (cube_at c.args.cubes.now j) c.args.cube.now) c.loop-at.at i c.args.upto c.loop-at.scratch.tests new c.next_beyond-i.ensures.from (rises_one (λ j. IsCandidate c.args.protocol.now (cube_at c.args.cubes.now j) c.args.cube.now) i c.args.upto
          c.loop-at.scratch.tests c.covers_asked.new.scratch.tests new (omega arith)
          (subst (λ (x : Cube). RisesIf (IsCandidate c.args.protocol.now x c.args.cube.now) c.loop-at.scratch.tests c.covers_asked.new.scratch.tests) (sym here) c.covers_asked.ensures.tests) h));
    }

pub returns-clause-first : goal.returns-clause-first
returns-clause-first c = c.loop-at.invariant.first None (λ j low high. absurd (omega arith))

pub returns-then-i-upto-clause-first : goal.returns-then-i-upto-clause-first
returns-then-i-upto-clause-first c =
    let p = c.args.protocol.now in
    let cubes = c.args.cubes.now in
    let cube = c.args.cube.now in
    let i = c.next_beyond-i.result in
    let at = c.loop-at.at in
    let passed : (j : ℕ) → at ≤ j → j < i → DoesCover p (cube_at cubes j) cube → ⊥ =
    none_above p cubes c.args.summaries.now c.args.upto c.requires.summed cube c.args.own.now c.requires.asked.own c.requires.asked.askable c.told_apart-apart.result c.loop-at.at i (omega arith) c.next_beyond-i.ensures.passed
    c.args.consistent c.requires.asked.met (c.told_apart-apart.ensures c.args.own.now c.requires.lacking) in
    c.loop-at.invariant.first None (λ j low high. passed j low (omega arith))
