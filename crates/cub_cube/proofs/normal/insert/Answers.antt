use Rattle.std.proofs.Common.{◌≡◌, ◌≢◌, ◌-◌, ◌<◌, ◌≤◌, length, drop, get_or, refl, subst, ◌∙◌}
use Rattle.std.specs.Prelude.{All}
use Rattle.std.specs.declared.cmp.Ordering.TheVariants.{Less, Equal}
use Rattle.cub_cube.specs.Normal.{subject_cmp}
use Rattle.cub_cube.proofs.Insertion.{joined_before, inserted_before}
use Rattle.cub_cube.proofs.normal.insert.Goals as goal

pub returns-then-has_subject_before : goal.returns-then-has_subject_before
returns-then-has_subject_before c =
    joined_before c.args.form.now.items c.args.lit c.count_up_to-count.result c.index.result.now c.joined.result c.requires
    (c.if-has_subject_before.ensures.there refl)
    (subst (λ xs. c.count_up_to-count.result ≤ length xs) c.as_slice.ensures.value c.count_up_to-count.ensures.within)
    (subst (λ xs. subject_cmp c.args.lit (get_or xs (c.count_up_to-count.result - 1) c.args.lit) ≡ Equal) c.as_slice-2.ensures.value (c.if-has_subject_before.ensures.same refl))
    c.index.ensures
    c.joined.ensures

pub returns : goal.returns
returns c =
    c.in_ok-insert.ensures.items ∙
    inserted_before c.args.form.now.items c.args.lit c.count_up_to-count.result c.requires
    (subst (λ xs. c.count_up_to-count.result ≤ length xs) c.as_slice.ensures.value c.count_up_to-count.ensures.within)
    (subst (λ xs. All (λ m. subject_cmp c.args.lit m ≡ Less) (drop c.count_up_to-count.result xs)) c.as_slice.ensures.value c.count_up_to-count.ensures.after)
    (subst (λ xs. 0 < c.count_up_to-count.result → subject_cmp c.args.lit (get_or xs (c.count_up_to-count.result - 1) c.args.lit) ≢ Less) c.as_slice.ensures.value c.count_up_to-count.ensures.before)
    (subst (λ xs. 0 < c.count_up_to-count.result → subject_cmp c.args.lit (get_or xs (c.count_up_to-count.result - 1) c.args.lit) ≢ Equal) c.as_slice-2.ensures.value (c.if-has_subject_before.ensures.other refl))
