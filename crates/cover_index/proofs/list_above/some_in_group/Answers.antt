use Rattle.std.proofs.Common.{◌≡◌, ◌/◌, ◌<◌, length, subst, arith}
use Rattle.log_form.specs.Links.{cube_at}
use Rattle.subsume.specs.Summary.{IsOf}
use Rattle.cover_index.specs.Asked.{summary_at}
use Rattle.cover_index.proofs.Searching.{askable_at}
use Rattle.cover_index.proofs.list_above.some_in_group.Goals as goal

pub returns-then-passes_over-clause-none : goal.returns-then-passes_over-clause-none
returns-then-passes_over-clause-none c h i low high live =
    let p = c.args.protocol.now in
    let cubes = c.args.store.now.cubes in
    let from = c.args.from in
    let below : i < length cubes = omega (arith, high, c.requires.within) in
    let one : i / 64 ≡ from / 64 = omega (arith, low, high, c.requires.near) in
    c.passes_over.ensures.none c.if-passes_over.true p (cube_at cubes i) c.args.cube.now
    (subst (λ k. IsOf p (cube_at cubes i) (summary_at c.args.groups.now k)) one (c.requires.groups i below))
    c.requires.own (askable_at p cubes i c.requires.summed.askable below) c.requires.asked.askable c.requires.asked.met
