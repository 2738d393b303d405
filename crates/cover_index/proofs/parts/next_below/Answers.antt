use Rattle.std.proofs.Common.{◌<◌, length, subst, arith}
use Rattle.std.proofs.lemmas.Bool.{leb-true}
use Rattle.log_form.specs.Links.{cube_at}
use Rattle.subsume.specs.Summary.{IsOf}
use Rattle.cover_index.specs.Asked.{summary_at}
use Rattle.cover_index.proofs.Searching.{askable_at}
use Rattle.cover_index.proofs.parts.next_below.Goals as goal

pub returns-then-passes_over-clause-none : goal.returns-then-passes_over-clause-none
returns-then-passes_over-clause-none c p cubes x within askable groups larger of fit met i low high =
    let below : i < length cubes = omega (arith, high, within, c.part_end-end.ensures.within) in
    c.passes_over.ensures.none c.if-passes_over.true p x (cube_at cubes i) of
    (subst (λ k. IsOf p (cube_at cubes i) (summary_at c.args.larger.now k)) (c.part_end-end.ensures.part i low high) (larger i below))
    fit (askable_at p cubes i askable below) (λ h. met i (omega (arith, high, leb-true _ _ h)) below)

pub returns-then-passes_over-2-clause-none : goal.returns-then-passes_over-2-clause-none
returns-then-passes_over-2-clause-none c p cubes x within askable groups larger of fit met i low high =
    let below : i < length cubes = omega (arith, high, within, c.part_end-end-2.ensures.within) in
    c.passes_over-2.ensures.none c.if-passes_over-2.true p x (cube_at cubes i) of
    (subst (λ k. IsOf p (cube_at cubes i) (summary_at c.args.groups.now k)) (c.part_end-end-2.ensures.part i low high) (groups i below))
    fit (askable_at p cubes i askable below) (λ h. met i (omega (arith, high, leb-true _ _ h)) below)
