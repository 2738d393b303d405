use Rattle.std.proofs.Common.{◌≡◌, ◌/◌, ◌<◌, ◌≤◌, ℕ, sym, ◌∙◌, arith}
use Rattle.std.specs.Prelude.{slice_index}
use Rattle.std.proofs.lemmas.Bool.{true≢false}
use Rattle.cub_cube.specs.Cover.{DoesCover}
use Rattle.log_form.specs.Links.{cube_at}
use Rattle.subsume.specs.Summary.{IsCandidate}
use Rattle.cover_index.specs.Noted.{IsNoted}
use Rattle.cover_index.proofs.Grouped.{none_other_passed, rises_other}
use Rattle.cover_index.proofs.list_above.some_other_in.Goals as goal

pub returns-then-has-clause-none : goal.returns-then-has-clause-none
returns-then-has-clause-none c h =
    let from = c.args.from in
    let upto = c.args.upto in
    let one : (i : ℕ) → from ≤ i → i < upto → i / 64 ≡ from / 64 = λ i low high. omega (arith, low, high, c.requires.near) in
    none_other_passed c.args.recent.now from upto one (λ j. DoesCover c.args.protocol.now (cube_at c.args.store.now.cubes j) c.args.cube.now) (λ j. slice_index c.args.retired.now j ≡ 0) (c.has.ensures.0 c.if-has.true)

pub returns-clause-none : goal.returns-clause-none
returns-clause-none c h i low high other = c.some_in.ensures.none h i low high

pub returns-clause-tests : goal.returns-clause-tests
returns-clause-tests c =
    let from = c.args.from in
    let upto = c.args.upto in
    let one : (i : ℕ) → from ≤ i → i < upto → i / 64 ≡ from / 64 = λ i low high. omega (arith, low, high, c.requires.near) in
    let other : IsNoted c.args.recent.now from → ⊥ = λ noted. true≢false (sym (c.has.ensures.1 noted) ∙ c.if-has.false) in
    rises_other c.args.recent.now from upto one (λ j. IsCandidate c.args.protocol.now (cube_at c.args.store.now.cubes j) c.args.cube.now) c.args.scratch.now.tests c.some_in.new.scratch.tests other c.some_in.ensures.tests
